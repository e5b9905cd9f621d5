-- Replay: the reply that is due to a call, the state after each record, and which histories are legal.
use Rattle.std.specs.Prelude.{◌≡◌, ℕ, List, [], ◌∷◌, fold, Option, Some}
use Rattle.std.specs.Option.{option_map}
use Rattle.am_mute.specs.Silence.{silence_of}
use Rattle.am_model.specs.declared.config.Config.{Config}
use Rattle.am_model.specs.declared.record.Call.{Call}
use Rattle.am_model.specs.declared.record.Call.TheVariants.{Insert, Silence, Begin, Finish, Maintain, RemoveEmptyGroups, Forget, Load, Note}
use Rattle.am_model.specs.declared.record.Record.{Record}
use Rattle.am_model.specs.declared.record.Reply.{Reply}
use Rattle.am_model.specs.declared.record.Reply.TheVariants.{Inserted, Silenced, Finished, Maintained, EmptyGroupsRemoved, Forgotten}
use Rattle.am_model.specs.Insert.{inserted, after_insert}
use Rattle.am_model.specs.Begin.{begun, after_begin}
use Rattle.am_model.specs.Finish.{finished, after_finish_of}
use Rattle.am_model.specs.Forget.{forgotten, after_forget}
use Rattle.am_model.specs.Load.{load_reply, after_load}
use Rattle.am_model.specs.Note.{noted, after_note_of}
use Rattle.am_model.specs.Maintenance.{silenced, after_silence, maintained, after_maintain, empty_groups_removed, after_removal}
use Rattle.am_model.specs.State.{State, opening_state, time, flush_numbered}

-- the reply to a call at a state; none where the call is no legal one: a finish or a note of a flush that isn't open, or a note or a load
-- that isn't allowed
abbrev pub reply : Config → ℕ → State → Call → Option Reply
reply config id s (Insert now alert) = Some (Inserted (inserted config s alert))
reply config id s (Silence now number matchers start end) = Some (Silenced (silenced s (silence_of number matchers start end)))
reply config id s (Begin now) = Some (begun config id s (time s now))
reply config id s (Finish now number outcomes) =
    option_map (λ f. Finished (finished s outcomes f)) (flush_numbered s.flushes number)
reply config id s (Maintain now) = Some (Maintained (maintained s (time s now)))
reply config id s (RemoveEmptyGroups now) = Some (EmptyGroupsRemoved (empty_groups_removed s))
reply config id s (Forget now) = Some (Forgotten (forgotten s (time s now)))
reply config id s (Load now row) = load_reply config s (time s now) row
reply config id s (Note now number integration outcome) = noted integration outcome (flush_numbered s.flushes number)

-- the state after a call
abbrev pub after_call : Config → State → Call → State
after_call config s (Insert now alert) = after_insert config s (time s now) alert
after_call config s (Silence now number matchers start end) = after_silence s (time s now) (silence_of number matchers start end)
after_call config s (Begin now) = after_begin config s (time s now)
after_call config s (Finish now number outcomes) =
    after_finish_of config s (time s now) outcomes (flush_numbered s.flushes number)
after_call config s (Maintain now) = after_maintain s (time s now)
after_call config s (RemoveEmptyGroups now) = after_removal s (time s now)
after_call config s (Forget now) = after_forget s (time s now)
after_call config s (Load now row) = after_load config s (time s now) row
after_call config s (Note now number integration outcome) =
    after_note_of config s (time s now) integration outcome (flush_numbered s.flushes number)

-- the state after a record
abbrev pub after : Config → State → Record → State
after config s r = after_call config s r.call

-- the state after some records, from a state on
abbrev pub replay_from : Config → State → List Record → State
replay_from config s history = fold (after config) s history

-- the state after a history
abbrev pub replay : Config → List Record → State
replay config history = replay_from config opening_state history

-- whether each reply is the one that the definitions give at the state after the records before it, from a state on
abbrev pub IsLegalFrom : Config → ℕ → State → List Record → Type 0
IsLegalFrom config id s [] = Unit {0}
IsLegalFrom config id s (r ∷ rs) = (reply config id s r.call ≡ Some r.reply) × IsLegalFrom config id (after config s r) rs

-- legal: each reply is the one that the definitions give after the records before it, where the board has this id
abbrev pub IsLegal : Config → ℕ → List Record → Type 0
IsLegal config id history = IsLegalFrom config id opening_state history
