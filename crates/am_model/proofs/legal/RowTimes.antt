-- No row of the log is of a time after the greatest there is.
use Rattle.std.proofs.Common.{◌≡◌, ℕ, ◌≤◌, true, false, ◌&&◌, nat_le, Option, Some, None, List, [], ◌∷◌, not, arith, fold, refl, if◌then◌else◌}
use Rattle.std.specs.List.{AllByRecursion}
use Rattle.std.proofs.lemmas.Bool.{and_parts, leb-true}
use Rattle.am_alerts.specs.declared.limits.TheConstants.{MAX_TIME}
use Rattle.am_retry.specs.declared.outcome.Outcome.{Outcome}
use Rattle.am_model.specs.declared.config.Config.{Config}
use Rattle.am_model.specs.declared.config.Integration.{Integration}
use Rattle.am_model.specs.declared.record.Call.{Call}
use Rattle.am_model.specs.declared.record.Call.TheVariants.{Insert, Silence, Begin, Finish, Maintain, RemoveEmptyGroups, Forget, Load, Note}
use Rattle.am_model.specs.declared.record.Record.{Record}
use Rattle.am_model.specs.declared.views.RowView.{RowView}
use Rattle.am_model.specs.Begin.{notified_of, taken, after_notifying, after_taking}
use Rattle.am_model.specs.Finish.{same_key, log_with, row_at, logged_by, after_finish_of}
use Rattle.am_model.specs.Load.{has_integration, is_ordered, may_load, loaded, is_put, rows_loading}
use Rattle.am_model.specs.Note.{may_note, after_note, after_note_of}
use Rattle.am_model.specs.Replay.{after, after_call, replay, replay_from}
use Rattle.am_model.specs.State.{NotifiedState, FlushState, GroupState, State, at_time, time, opening_state, flush_numbered}
use Rattle.am_model.specs.Maintenance.{has_expired}
use Rattle.am_model.proofs.legal.Consistent.{time-within}
use Rattle.am_model.proofs.lists.Distinct.{all-filter}
use Rattle.am_model.proofs.lists.Words.{all-upsert}

-- of rows and of a state
abbrev AreTimely : List RowView → Type 0
AreTimely rows = AllByRecursion (λ row. row.time ≤ MAX_TIME) rows

record IsTimely (s : State) : Type 0 where
  clock : s.clock ≤ MAX_TIME
  rows : AreTimely s.rows

logged : (config : Config) (t : ℕ) (f : FlushState) (notified : List NotifiedState) (rows : List RowView) → t ≤ MAX_TIME → AreTimely rows
    → AreTimely (fold (λ log a. log_with (row_at config t f a.integration) log) rows notified)
logged config t f [] rows within timely = timely
logged config t f (a ∷ notified) rows within timely =
    logged config t f notified (log_with (row_at config t f a.integration) rows) within
    (all-upsert same_key (row_at config t f a.integration) (λ (row : RowView). row.time ≤ MAX_TIME) rows within timely)

finishing : (config : Config) (s : State) (t : ℕ) (outcomes : List (ℕ × Outcome)) (o : Option FlushState) → t ≤ MAX_TIME → IsTimely s → IsTimely (after_finish_of config s t outcomes o)
finishing config s t outcomes None within timely = record { clock = within; rows = timely.rows }
finishing config s t outcomes (Some f) within timely = record { clock = within; rows = logged config t f (logged_by outcomes f) s.rows within timely.rows }

noting : (config : Config) (s : State) (t integration : ℕ) (outcome : Option Outcome) (o : Option FlushState) → t ≤ MAX_TIME → IsTimely s → IsTimely (after_note_of config s t integration outcome o)
noting config s t integration outcome None within timely = record { clock = within; rows = timely.rows }
noting config s t integration outcome (Some f) within timely =
    elim (may_note integration outcome f) as (λ b. IsTimely (if b then after_note config s t integration f else at_time s t)) [
      | true ↦ record {
        clock = within;
        rows = all-upsert same_key (row_at config t f integration) (λ (row : RowView). row.time ≤ MAX_TIME) s.rows within timely.rows;
      }
      | false ↦ record { clock = within; rows = timely.rows }
    ]

-- a row that is loaded isn't of a later time
loading : (config : Config) (rows : List RowView) (t : ℕ) (row : RowView) → t ≤ MAX_TIME → AreTimely rows → AreTimely (rows_loading config rows t row)
loading config rows t row within timely =
    elim (may_load config t row && is_put (loaded rows t row)) as (λ b. (may_load config t row && is_put (loaded rows t row)) ≡ b → AreTimely (if b then log_with row rows else rows)) [
      | true ↦ λ e.
          let may = (and_parts (may_load config t row) (is_put (loaded rows t row)) e).0 in
          let earlier = (and_parts (has_integration config row && is_ordered row) (nat_le row.time t) may).1 in
          all-upsert same_key row (λ (row : RowView). row.time ≤ MAX_TIME) rows (omega (arith, leb-true row.time t earlier, within)) timely
      | false ↦ λ e. timely
    ] refl

notifying : (config : Config) (s : State) (t : ℕ) (g : GroupState) (notified : List (ℕ × Integration)) → t ≤ MAX_TIME → IsTimely s → IsTimely (after_notifying config s t g notified)
notifying config s t g [] within timely = record { clock = within; rows = timely.rows }
notifying config s t g (i ∷ is) within timely = record { clock = within; rows = timely.rows }

taking : (config : Config) (s : State) (t : ℕ) (o : Option GroupState) → t ≤ MAX_TIME → IsTimely s → IsTimely (after_taking config s t o)
taking config s t None within timely = record { clock = within; rows = timely.rows }
taking config s t (Some g) within timely = notifying config s t g (notified_of config s t g) within timely

call : (config : Config) (s : State) (c : Call) → IsTimely s → IsTimely (after_call config s c)
call config s (Insert now alert) timely = record { clock = time-within s now timely.clock; rows = timely.rows }
call config s (Silence now number matchers start end) timely = record { clock = time-within s now timely.clock; rows = timely.rows }
call config s (Begin now) timely = taking config s (time s now) (taken s (time s now)) (time-within s now timely.clock) timely
call config s (Finish now number outcomes) timely =
    finishing config s (time s now) outcomes (flush_numbered s.flushes number) (time-within s now timely.clock) timely
call config s (Maintain now) timely =
    record {
      clock = time-within s now timely.clock;
      rows = all-filter (λ (row : RowView). row.time ≤ MAX_TIME) (λ row. not (has_expired (time s now) row)) s.rows timely.rows;
    }
call config s (RemoveEmptyGroups now) timely = record { clock = time-within s now timely.clock; rows = timely.rows }
call config s (Forget now) timely = record { clock = time-within s now timely.clock; rows = timely.rows }
call config s (Load now row) timely =
    record {
      clock = time-within s now timely.clock;
      rows = loading config s.rows (time s now) row (time-within s now timely.clock) timely.rows;
    }
call config s (Note now number integration outcome) timely =
    noting config s (time s now) integration outcome (flush_numbered s.flushes number) (time-within s now timely.clock) timely

each : (config : Config) (s : State) (history : List Record) → IsTimely s → IsTimely (replay_from config s history)
each config s [] timely = timely
each config s (r ∷ history) timely = each config (after config s r) history (call config s r.call timely)

-- after any list of records
pub rows-timely : (config : Config) (history : List Record) → AllByRecursion (λ row. row.time ≤ MAX_TIME) (replay config history).rows
rows-timely config history = (each config opening_state history (record { clock = omega arith; rows = tt })).rows
