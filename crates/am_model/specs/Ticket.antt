-- Ticket: a ticket as contracts see it, and the outcomes that it records.
use Rattle.std.specs.Prelude.{ℕ, ◌==◌, ◌+◌, ◌&&◌, Bool, Option, Some, None, is_some, List, [], ◌∷◌, ◌++◌, if◌then◌else◌}
use Rattle.am_retry.specs.declared.outcome.Outcome.{Outcome}
use Rattle.am_model.specs.declared.notice.Report.{Report}
use Rattle.am_model.specs.declared.fault.ReportFault.{ReportFault}
use Rattle.am_model.specs.declared.fault.ReportFault.TheVariants.{Stranger, Twice}
use Rattle.am_model.specs.Notice.{NoticeData, has_something_for}
use Rattle.am_model.specs.declared.group.GroupName.{GroupName}

-- an open flush in its holder's hands, with the outcomes recorded so far
pub record TicketData : Type 0 where
  pub board_id : ℕ
  pub number : ℕ
  pub group : GroupName
  pub deadline : ℕ
  pub notices : List NoticeData
  pub outcomes : List (ℕ × Outcome)

-- the outcome of an integration: that of the first pair that names it
abbrev pub outcome_of : List (ℕ × Outcome) → ℕ → Option Outcome
outcome_of [] integration = None
outcome_of (pair ∷ pairs) integration = if pair.0 == integration then Some pair.1 else outcome_of pairs integration

-- whether a report is of a notice of this ticket that has something to send
abbrev pub is_of_ticket : TicketData → Report → Bool
is_of_ticket t r = (r.board_id == t.board_id) && (r.ticket == t.number) && has_something_for t.notices r.integration

-- why a report isn't recorded
abbrev pub report_fault : TicketData → Report → Option ReportFault
report_fault t r =
    if is_of_ticket t r
    then (if is_some (outcome_of t.outcomes r.integration) then Some Twice else None)
    else Some Stranger

-- the ticket with one report more
abbrev pub recorded : TicketData → Report → TicketData
recorded t r =
    record {
      board_id = t.board_id;
      number = t.number;
      group = t.group;
      deadline = t.deadline;
      notices = t.notices;
      outcomes = t.outcomes ++ (r.integration, r.outcome) ∷ [];
    }

-- how many notices have no outcome
abbrev pub count_unreported : List (ℕ × Outcome) → List NoticeData → ℕ
count_unreported outcomes [] = 0
count_unreported outcomes (n ∷ ns) = (if is_some (outcome_of outcomes n.integration) then 0 else 1) + count_unreported outcomes ns
