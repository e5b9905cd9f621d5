-- Finish: the successes of a flush are logged, and its resolved alerts leave (Alertmanager's SetNotifiesStage and aggrGroup.flush).
use Rattle.std.specs.Prelude.{ℕ, Bool, true, false, not, ◌&&◌, ◌||◌, ◌==◌, List, filter, fold, length, count_by, Option, Some, None}
use Rattle.std.specs.List.{list_all, list_any}
use Rattle.am_alerts.specs.Labels.{same_label_set}
use Rattle.am_retry.specs.declared.outcome.Outcome.{Outcome}
use Rattle.am_retry.specs.declared.outcome.Outcome.TheVariants.{Delivered, Refused, Expired, Starved}
use Rattle.am_model.specs.declared.config.Config.{Config}
use Rattle.am_model.specs.declared.record.Finished.{Finished}
use Rattle.am_model.specs.declared.views.RowView.{RowView}
use Rattle.am_model.specs.Begin.{is_entry_of}
use Rattle.am_model.specs.Configured.{expiry_at}
use Rattle.am_model.specs.Lists.{upsert, without, changed_where}
use Rattle.am_model.specs.State.{MemberState, GroupState, NotifiedState, Stamped, FlushState, State, at_time, is_named, members_in}
use Rattle.am_model.specs.Ticket.{outcome_of}

-- whether a notice is reported delivered
abbrev pub is_delivered : Option Outcome → Bool
is_delivered None = false
is_delivered (Some Delivered) = true
is_delivered (Some Refused) = false
is_delivered (Some Expired) = false
is_delivered (Some Starved) = false

-- whether an integration that was notified succeeded: it is noted, it had nothing to send, or its notice is reported delivered
abbrev pub has_succeeded : List (ℕ × Outcome) → NotifiedState → Bool
has_succeeded outcomes a = a.noted || a.nothing || is_delivered (outcome_of outcomes a.integration)

-- whether every integration that a flush notified succeeded
abbrev pub all_succeeded : List (ℕ × Outcome) → FlushState → Bool
all_succeeded outcomes f = list_all (has_succeeded outcomes) f.notified

-- the log row of an integration for a flush, at t
abbrev pub row_at : Config → ℕ → FlushState → ℕ → RowView
row_at config t f integration =
    record {
      group = f.group;
      integration = integration;
      time = t;
      expiry = expiry_at config f.group t;
      firing = f.firing;
      resolved = f.resolved;
    }

-- whether two rows have one key: group and integration
abbrev pub same_key : RowView → RowView → Bool
same_key row other = is_entry_of row.group row.integration other

-- the log with a row in place of the one with its key, or added
abbrev pub log_with : RowView → List RowView → List RowView
log_with row rows = upsert same_key row rows

-- the integrations whose success a finish logs: those that weren't noted
abbrev pub logged_by : List (ℕ × Outcome) → FlushState → List NotifiedState
logged_by outcomes f = filter (λ a. has_succeeded outcomes a && not a.noted) f.notified

-- the log after a finish at t
abbrev pub rows_after : Config → ℕ → List (ℕ × Outcome) → FlushState → List RowView → List RowView
rows_after config t outcomes f rows =
    fold (λ log a. log_with (row_at config t f a.integration) log) rows (logged_by outcomes f)

-- whether a member is in its group with the label set and the stamp of one that leaves
abbrev pub is_leaving : List Stamped → MemberState → Bool
is_leaving leaving m = list_any (λ l. same_label_set l.labels m.alert.labels && (l.stamp == m.stamp)) leaving

-- whether a member leaves its group by the finish of a flush: all succeeded, and it is as it was at the begin, resolved
abbrev pub leaves_by : List (ℕ × Outcome) → FlushState → MemberState → Bool
leaves_by outcomes f m = all_succeeded outcomes f && is_leaving f.leaving m

-- a group after the finish of its flush
abbrev pub finished_group : List (ℕ × Outcome) → FlushState → GroupState → GroupState
finished_group outcomes f g = record g { members = without (leaves_by outcomes f) g.members }

-- the reply to the finish of an open flush: how many rows are logged, and how many alerts leave
abbrev pub finished : State → List (ℕ × Outcome) → FlushState → Finished
finished s outcomes f =
    record {
      logged = length (logged_by outcomes f);
      removed = count_by (leaves_by outcomes f) (members_in s.groups f.group);
    }

-- the state after the finish of an open flush at t, which closes it
abbrev pub after_finish : Config → State → ℕ → List (ℕ × Outcome) → FlushState → State
after_finish config s t outcomes f =
    record s {
      clock = t;
      groups = changed_where (is_named f.group) (finished_group outcomes f) s.groups;
      rows = rows_after config t outcomes f s.rows;
      flushes = without (λ g. g.number == f.number) s.flushes;
    }

-- the state after a finish at t of this flush; where it isn't open, only the clock moves
abbrev pub after_finish_of : Config → State → ℕ → List (ℕ × Outcome) → Option FlushState → State
after_finish_of config s t outcomes None = at_time s t
after_finish_of config s t outcomes (Some f) = after_finish config s t outcomes f
