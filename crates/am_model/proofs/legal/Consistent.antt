-- The state after any list of records is consistent.
use Rattle.std.proofs.Common.{ℕ, ◌≤◌, List, [], ◌∷◌, arith}
use Rattle.am_alerts.specs.declared.limits.TheConstants.{MAX_TIME}
use Rattle.am_mute.specs.Silence.{silence_of}
use Rattle.am_model.specs.declared.config.Config.{Config}
use Rattle.am_model.specs.declared.record.Call.{Call}
use Rattle.am_model.specs.declared.record.Call.TheVariants.{Insert, Silence, Begin, Finish, Maintain, RemoveEmptyGroups, Forget, Load, Note}
use Rattle.am_model.specs.declared.record.Record.{Record}
use Rattle.am_model.specs.Insert.{same_alert, same_group}
use Rattle.am_model.specs.Finish.{same_key}
use Rattle.am_model.specs.Laws.{same_flushed, same_number, IsConsistent, ReplaysAreConsistent}
use Rattle.am_model.specs.Replay.{after, after_call, replay, replay_from}
use Rattle.am_model.specs.State.{State, opening_state, time, flush_numbered}
use Rattle.am_model.specs.Maintenance.{same_silence}
use Rattle.am_model.proofs.legal.ConsistentBegin.{steady_begin}
use Rattle.am_model.proofs.legal.ConsistentFinish.{steady_finish, steady_removal, steady_maintain, steady_forget, steady_load, steady_note}
use Rattle.am_model.proofs.legal.ConsistentInsert.{steady_insert, steady_silence}
use Rattle.am_model.proofs.lists.Distinct.{IsDistinct-nil}
use Rattle.am_model.proofs.legal.ConsistentState.{IsSteady, consistent_from, consistent_to}

-- no time is after the greatest
pub time-within : (s : State) (now : ℕ) → s.clock ≤ MAX_TIME → time s now ≤ MAX_TIME
time-within s now h = omega (arith, h)

steady_call : (config : Config) (s : State) (c : Call) → IsSteady s → IsSteady (after_call config s c)
steady_call config s (Insert now alert) h = steady_insert config s (time s now) alert (time-within s now h.clock) h
steady_call config s (Silence now number matchers start end) h =
    steady_silence s (time s now) (silence_of number matchers start end) (time-within s now h.clock) h
steady_call config s (Begin now) h = steady_begin config s (time s now) (time-within s now h.clock) h
steady_call config s (Finish now number outcomes) h = steady_finish config s (time s now) number outcomes (time-within s now h.clock) h
steady_call config s (Maintain now) h = steady_maintain s (time s now) (time-within s now h.clock) h
steady_call config s (RemoveEmptyGroups now) h = steady_removal s (time s now) (time-within s now h.clock) h
steady_call config s (Forget now) h = steady_forget s (time s now) (time-within s now h.clock) h
steady_call config s (Load now row) h = steady_load config s (time s now) row (time-within s now h.clock) h
steady_call config s (Note now number integration outcome) h =
    steady_note config s (time s now) integration outcome (flush_numbered s.flushes number) (time-within s now h.clock) h

steady_opening : IsSteady opening_state
steady_opening =
    record {
      clock = omega arith;
      known = IsDistinct-nil same_alert;
      groups = IsDistinct-nil same_group;
      tidy = tt;
      silences = IsDistinct-nil same_silence;
      rows = IsDistinct-nil same_key;
      flushes = IsDistinct-nil same_flushed;
      numbers = IsDistinct-nil same_number;
      opened = tt;
    }

steady_from : (config : Config) (s : State) (history : List Record) → IsSteady s → IsSteady (replay_from config s history)
steady_from config s [] h = h
steady_from config s (r ∷ history) h = steady_from config (after config s r) history (steady_call config s r.call h)

-- each record keeps a state consistent, whatever its reply says
pub consistent_after : (config : Config) (s : State) (r : Record) → IsConsistent s → IsConsistent (after config s r)
consistent_after config s r h = consistent_from (after config s r) (steady_call config s r.call (consistent_to s h))

pub consistent_replay : ReplaysAreConsistent
consistent_replay config history = consistent_from (replay config history) (steady_from config opening_state history steady_opening)
