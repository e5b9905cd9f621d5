-- A history with one record more.
use Rattle.std.proofs.Common.{◌≡◌, ℕ, true, false, cond, max, min, Option, Some, None, List, [], ◌∷◌, ◌++◌, refl, ap, ◌∙◌}
use Rattle.std.specs.Prelude.{fold}
use Rattle.std.proofs.lemmas.List.Sums.{fold-append}
use Rattle.am_retry.specs.declared.outcome.Outcome.{Outcome}
use Rattle.am_alerts.specs.declared.limits.TheConstants.{MAX_TIME}
use Rattle.am_model.specs.declared.config.Config.{Config}
use Rattle.am_model.specs.declared.config.Integration.{Integration}
use Rattle.am_model.specs.declared.record.Call.{Call}
use Rattle.am_model.specs.declared.record.Call.TheVariants.{Insert, Silence, Begin, Finish, Maintain, RemoveEmptyGroups, Forget, Load, Note}
use Rattle.am_model.specs.declared.record.Record.{Record}
use Rattle.am_model.specs.Begin.{taken, notified_of, after_notifying, after_taking}
use Rattle.am_model.specs.Finish.{after_finish_of}
use Rattle.am_model.specs.Note.{may_note, after_note, after_note_of}
use Rattle.am_model.specs.Records.{now_of}
use Rattle.am_model.specs.Laws.{ReplayAppends, LegalAppends, ClockIsTime, BeginningsAreLegal}
use Rattle.am_model.specs.Replay.{reply, after, after_call, replay_from, IsLegalFrom}
use Rattle.am_model.specs.State.{GroupState, FlushState, State, opening_state, time, at_time, flush_numbered}

pub replay_appends : ReplayAppends
replay_appends config history r = fold-append (after config) opening_state history (r ∷ [])

-- what was legal before stays so, and the last reply is the one that is given
legal_parts : (config : Config) (id : ℕ) (s : State) (history : List Record) (r : Record) → IsLegalFrom config id s (history ++ r ∷ []) → IsLegalFrom config id s history × (reply config id (replay_from config s history) r.call ≡ Some r.reply)
legal_parts config id s [] r h = (tt, h.0)
legal_parts config id s (q ∷ history) r h =
    let rest = legal_parts config id (after config s q) history r h.1 in
    ((h.0, rest.0), rest.1)

-- a legal history and a reply that is given
legal_whole : (config : Config) (id : ℕ) (s : State) (history : List Record) (r : Record) → IsLegalFrom config id s history × (reply config id (replay_from config s history) r.call ≡ Some r.reply) → IsLegalFrom config id s (history ++ r ∷ [])
legal_whole config id s [] r h = (h.1, tt)
legal_whole config id s (q ∷ history) r h = (h.0.0, legal_whole config id (after config s q) history r (h.0.1, h.1))

pub legal_appends : LegalAppends
legal_appends config id history r = (legal_parts config id opening_state history r, legal_whole config id opening_state history r)

-- what comes later doesn't matter
beginning_legal : (config : Config) (id : ℕ) (s : State) (beginning rest : List Record) → IsLegalFrom config id s (beginning ++ rest) → IsLegalFrom config id s beginning
beginning_legal config id s [] rest h = tt
beginning_legal config id s (r ∷ beginning) rest h = (h.0, beginning_legal config id (after config s r) beginning rest h.1)

pub beginnings_are_legal : BeginningsAreLegal
beginnings_are_legal config id beginning rest h = beginning_legal config id opening_state beginning rest h

-- each begin leaves the clock at its time
notifying_clock : (config : Config) (s : State) (t : ℕ) (g : GroupState) (notified : List (ℕ × Integration)) → (after_notifying config s t g notified).clock ≡ t
notifying_clock config s t g [] = refl
notifying_clock config s t g (i ∷ is) = refl

taking_clock : (config : Config) (s : State) (t : ℕ) (g : Option GroupState) → (after_taking config s t g).clock ≡ t
taking_clock config s t None = refl
taking_clock config s t (Some g) = notifying_clock config s t g (notified_of config s t g)

-- so does each finish
finish_clock : (config : Config) (s : State) (t : ℕ) (outcomes : List (ℕ × Outcome)) (f : Option FlushState) → (after_finish_of config s t outcomes f).clock ≡ t
finish_clock config s t outcomes None = refl
finish_clock config s t outcomes (Some f) = refl

-- and each note
note_clock : (config : Config) (s : State) (t integration : ℕ) (outcome : Option Outcome) (f : Option FlushState) → (after_note_of config s t integration outcome f).clock ≡ t
note_clock config s t integration outcome None = refl
note_clock config s t integration outcome (Some f) =
    elim (may_note integration outcome f) as (λ b. (cond b (after_note config s t integration f) (at_time s t)).clock ≡ t) [ true ↦ refl | false ↦ refl ]

-- each call leaves the clock at its time
pub after_clock : (config : Config) (s : State) (c : Call) → (after_call config s c).clock ≡ time s (now_of c)
after_clock config s (Insert now alert) = refl
after_clock config s (Silence now number matchers start end) = refl
after_clock config s (Begin now) = taking_clock config s (time s now) (taken s (time s now))
after_clock config s (Finish now number outcomes) = finish_clock config s (time s now) outcomes (flush_numbered s.flushes number)
after_clock config s (Maintain now) = refl
after_clock config s (RemoveEmptyGroups now) = refl
after_clock config s (Forget now) = refl
after_clock config s (Load now row) = refl
after_clock config s (Note now number integration outcome) =
    note_clock config s (time s now) integration outcome (flush_numbered s.flushes number)

clock_from : (config : Config) (s : State) (history : List Record) → (replay_from config s history).clock ≡ fold (λ t r. max t (min (now_of r.call) MAX_TIME)) s.clock history
clock_from config s [] = refl
clock_from config s (r ∷ history) =
    clock_from config (after config s r) history
    ∙ ap (λ t. fold (λ t r. max t (min (now_of r.call) MAX_TIME)) t history) (after_clock config s r.call)

pub clock_is_time : ClockIsTime
clock_is_time config history = clock_from config opening_state history
