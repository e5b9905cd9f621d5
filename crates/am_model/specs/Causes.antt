-- Causes: the first cause, except memory, for which a call fails at a state after so many records.
use Rattle.std.specs.Prelude.{ℕ, ◌+◌, Bool, true, false, not, ◌&&◌, ◌==◌, nat_lt, nat_le, List, [], ◌∷◌, length, Option, Some, None}
use Rattle.std.specs.Prelude.{slice_get, if◌then◌else◌}
use Rattle.std.specs.List.{list_any}
use Rattle.std.specs.Option.{option_or}
use Rattle.am_alerts.specs.AlertData.{AlertData}
use Rattle.am_mute.specs.Silence.{SilenceData}
use Rattle.am_retry.specs.declared.outcome.Outcome.{Outcome}
use Rattle.am_model.specs.declared.config.Config.{Config}
use Rattle.am_model.specs.declared.config.Integration.{Integration}
use Rattle.am_model.specs.declared.fault.Fault.{Fault}
use Rattle.am_model.specs.declared.fault.Fault.TheVariants.{TooManyAlerts, TooManyGroups, TooManySilences, TooManyOpen, HistoryFull}
use Rattle.am_model.specs.declared.fault.LoadFault.{LoadFault}
use Rattle.am_model.specs.declared.fault.LoadFault.TheVariants as load
use Rattle.am_model.specs.declared.fault.NoteFault.{NoteFault}
use Rattle.am_model.specs.declared.fault.NoteFault.TheVariants as note
use Rattle.am_model.specs.declared.views.RowView.{RowView}
use Rattle.am_model.specs.Begin.{taken, notified_of}
use Rattle.am_model.specs.Notice.{NoticeData}
use Rattle.am_model.specs.Ticket.{TicketData, outcome_of}
use Rattle.am_model.specs.Insert.{inserted, same_alert}
use Rattle.am_model.specs.Load.{has_integration, is_ordered}
use Rattle.am_model.specs.Note.{is_ready, notified_by}
use Rattle.am_model.specs.State.{GroupState, NotifiedState, FlushState, State, flush_numbered}
use Rattle.am_model.specs.Maintenance.{silenced}

-- whether a history has no capacity for so many records more, besides one for the finish of each open flush
abbrev pub is_full : Config → ℕ → State → ℕ → Bool
is_full config records s more = nat_lt config.limits.history (records + length s.flushes + more)

-- whether an alert is new and no more can be known
abbrev pub is_alert_too_many : Config → State → AlertData → Bool
is_alert_too_many config s a = nat_le config.limits.alerts (length s.known) && not (list_any (same_alert a) s.known)

-- whether an insert would make more groups than the limit allows
abbrev pub makes_too_many : Config → State → AlertData → Bool
makes_too_many config s a = nat_lt config.limits.groups (length s.groups + (inserted config s a).made)

-- why an insert is refused
abbrev pub insert_cause : Config → ℕ → State → AlertData → Option Fault
insert_cause config records s a =
    if is_full config records s 1 then Some HistoryFull
    else (if is_alert_too_many config s a then Some TooManyAlerts
    else (if makes_too_many config s a then Some TooManyGroups else None))

-- whether a silence is new and there can be no more
abbrev pub is_silence_too_many : Config → State → SilenceData → Bool
is_silence_too_many config s silence = nat_le config.limits.silences (length s.silences) && not (silenced s silence).replaced

-- why a silence is refused
abbrev pub silence_cause : Config → ℕ → State → SilenceData → Option Fault
silence_cause config records s silence =
    if is_full config records s 1 then Some HistoryFull
    else (if is_silence_too_many config s silence then Some TooManySilences else None)

-- whether a begin that notifies these integrations opens a flush
abbrev pub notifies_some : List (ℕ × Integration) → Bool
notifies_some [] = false
notifies_some (i ∷ is) = true

-- whether a begin at t that takes this group opens a flush
abbrev pub opens_by : Config → State → ℕ → Option GroupState → Bool
opens_by config s t None = false
opens_by config s t (Some g) = notifies_some (notified_of config s t g)

-- why a begin at t is refused
abbrev pub begin_cause : Config → ℕ → State → ℕ → Option Fault
begin_cause config records s t =
    if is_full config records s 2 then Some HistoryFull
    else (if nat_le config.limits.flushes (length s.flushes) && opens_by config s t (taken s t) then Some TooManyOpen else None)

-- why a maintenance is refused
abbrev pub maintain_cause : Config → ℕ → State → Option Fault
maintain_cause config records s = if is_full config records s 1 then Some HistoryFull else None

-- why a removal of empty groups is refused
abbrev pub removal_cause : Config → ℕ → State → Option Fault
removal_cause config records s = if is_full config records s 1 then Some HistoryFull else None

-- why a forgetting is refused
abbrev pub forget_cause : Config → ℕ → State → Option Fault
forget_cause config records s = if is_full config records s 1 then Some HistoryFull else None

-- why a row may not be loaded at t
abbrev pub row_cause : Config → ℕ → RowView → Option LoadFault
row_cause config t row =
    if not (has_integration config row) then Some load.NoIntegration
    else (if not (is_ordered row) then Some load.Unordered
    else (if nat_lt t row.time then Some load.Ahead else None))

-- why a load at t is refused
abbrev pub load_cause : Config → ℕ → State → ℕ → RowView → Option LoadFault
load_cause config records s t row =
    option_or (row_cause config t row) (if is_full config records s 1 then Some load.HistoryFull else None)

-- why an integration isn't noted with this outcome, as a flush notified it
abbrev pub notified_cause : Config → ℕ → State → Option Outcome → Option NotifiedState → Option NoteFault
notified_cause config records s outcome None = Some note.NotReady
notified_cause config records s outcome (Some a) =
    if not (is_ready outcome a) then Some note.NotReady
    else (if a.noted then Some note.Already
    else (if is_full config records s 1 then Some note.HistoryFull else None))

-- why this notice of a ticket isn't noted for its flush
abbrev pub notice_cause : Config → ℕ → State → TicketData → Option NoticeData → FlushState → Option NoteFault
notice_cause config records s ticket None f = Some note.NotReady
notice_cause config records s ticket (Some n) f =
    notified_cause config records s (outcome_of ticket.outcomes n.integration) (notified_by f n.integration)

-- why the notice at an index of a ticket isn't noted for this flush
abbrev pub flush_cause : Config → ℕ → State → TicketData → ℕ → Option FlushState → Option NoteFault
flush_cause config records s ticket index None = Some note.NotOpen
flush_cause config records s ticket index (Some f) = notice_cause config records s ticket (slice_get ticket.notices index) f

-- why the notice at an index of a ticket isn't noted by the desk of this id
abbrev pub note_cause : Config → ℕ → ℕ → State → TicketData → ℕ → Option NoteFault
note_cause config id records s ticket index =
    if ticket.board_id == id then flush_cause config records s ticket index (flush_numbered s.flushes ticket.number)
    else Some note.Foreign
