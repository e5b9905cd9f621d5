-- Note: the success of one integration is logged before its flush is finished (Alertmanager's SetNotifiesStage, which runs for each
-- integration by itself).
use Rattle.std.specs.Prelude.{ℕ, Bool, true, false, not, find, ◌&&◌, ◌||◌, ◌==◌, Option, Some, None, if◌then◌else◌}
use Rattle.am_retry.specs.declared.outcome.Outcome.{Outcome}
use Rattle.am_model.specs.declared.config.Config.{Config}
use Rattle.am_model.specs.declared.record.Reply.{Reply}
use Rattle.am_model.specs.declared.record.Reply.TheVariants.{Noted}
use Rattle.am_model.specs.Finish.{is_delivered, row_at, log_with}
use Rattle.am_model.specs.Lists.{changed_where}
use Rattle.am_model.specs.State.{NotifiedState, FlushState, State, at_time}

-- whether an integration that was notified is ready to be noted: it had nothing to send, or this outcome is that its notice was delivered
abbrev pub is_ready : Option Outcome → NotifiedState → Bool
is_ready outcome a = a.nothing || is_delivered outcome

-- an integration as a flush notified it, if it did
abbrev pub notified_by : FlushState → ℕ → Option NotifiedState
notified_by f integration = find (λ a. a.integration == integration) f.notified

-- whether an integration was notified, is ready with this outcome, and isn't noted yet
abbrev pub may_be_noted : Option Outcome → Option NotifiedState → Bool
may_be_noted outcome None = false
may_be_noted outcome (Some a) = is_ready outcome a && not a.noted

-- whether an integration can be noted for a flush with this outcome
abbrev pub may_note : ℕ → Option Outcome → FlushState → Bool
may_note integration outcome f = may_be_noted outcome (notified_by f integration)

-- an integration that was notified, noted from now on
abbrev pub as_noted : NotifiedState → NotifiedState
as_noted a = record a { noted = true }

-- a flush with an integration noted
abbrev pub with_note : ℕ → FlushState → FlushState
with_note integration f = record f { notified = changed_where (λ a. a.integration == integration) as_noted f.notified }

-- the state after a note of an integration of an open flush at t
abbrev pub after_note : Config → State → ℕ → ℕ → FlushState → State
after_note config s t integration f =
    record s {
      clock = t;
      rows = log_with (row_at config t f integration) s.rows;
      flushes = changed_where (λ g. g.number == f.number) (with_note integration) s.flushes;
    }

-- the reply to a note of this flush; none where it isn't open or the integration may not be noted
abbrev pub noted : ℕ → Option Outcome → Option FlushState → Option Reply
noted integration outcome None = None
noted integration outcome (Some f) = if may_note integration outcome f then Some Noted else None

-- the state after a note at t of this flush; where it isn't open or the integration may not be noted, only the clock moves
abbrev pub after_note_of : Config → State → ℕ → ℕ → Option Outcome → Option FlushState → State
after_note_of config s t integration outcome None = at_time s t
after_note_of config s t integration outcome (Some f) =
    if may_note integration outcome f then after_note config s t integration f else at_time s t
