-- Ticket: the JSON tokens of what is answered about the open flushes.
use Rattle.std.specs.Prelude.{◌≡◌, ℕ, Bool, true, ◌==◌, ◌&&◌, nat_lt, List, [], ◌∷◌, ◌++◌, map, Some, None, codes, slice_get, slice_set}
use Rattle.std.specs.List.{position}
use Rattle.json.specs.Token.{Token, key}
use Rattle.am_retry.specs.declared.outcome.Outcome.{Outcome}
use Rattle.am_model.specs.declared.config.Config.{Config}
use Rattle.am_model.specs.declared.fault.ReportFault.{ReportFault}
use Rattle.am_model.specs.declared.notice.Report.{Report}
use Rattle.am_model.specs.Notice.{NoticeData}
use Rattle.am_model.specs.Ticket.{TicketData, outcome_of, recorded, report_fault}
use Rattle.am_protocol.specs.Answer.{object, array}
use Rattle.am_protocol.specs.Record.{report_tokens}
use Rattle.am_protocol.specs.Reply.{flush_members}
use Rattle.am_session.specs.declared.ticket.TheConstants.{BOARD_ID}

-- whether each of these numbers is below the next
abbrev pub are_rising : List ℕ → Bool
are_rising [] = true
are_rising (m ∷ []) = true
are_rising (m ∷ (n ∷ ns)) = nat_lt m n && are_rising (n ∷ ns)

-- the numbers of tickets
abbrev pub numbers : List TicketData → List ℕ
numbers tickets = map (λ t. t.number) tickets

-- the report of how the sending to an integration ended. How often it was attempted, and until when, isn't answered
abbrev pub report_on : TicketData → ℕ → Outcome → Report
report_on t integration outcome =
    record { board_id = BOARD_ID; ticket = t.number; integration = integration; outcome = outcome; attempts = 1; ended = 0 }

-- what was reported on each notice of a ticket
abbrev pub reports_tokens : TicketData → List Token
reports_tokens t = array (λ n. report_tokens n.integration (outcome_of t.outcomes n.integration)) t.notices

-- an open flush: its ticket as the begin answered it, and what was reported since
abbrev pub ticket_tokens : Config → TicketData → List Token
ticket_tokens config t =
    object (flush_members config t.number t.group t.deadline t.notices ++ key (codes "reports") ∷ reports_tokens t)

-- the first of these tickets that has this number, at this index
pub record IsFirst (number : ℕ) (tickets : List TicketData) (index : ℕ) (ticket : TicketData) : Type 0 where
  pub first : position (λ t. t.number == number) tickets ≡ Some index
  pub held : slice_get tickets index ≡ Some ticket

-- how the sending to an integration ended is recorded in the ticket at an index, which has no fault for it
abbrev pub IsRecordedAt : List TicketData → ℕ → ℕ → Outcome → List TicketData → Type 0
IsRecordedAt old index integration outcome new =
    (ticket : TicketData) × (slice_get old index ≡ Some ticket)
    × (report_fault ticket (report_on ticket integration outcome) ≡ None)
    × (new ≡ slice_set old index (recorded ticket (report_on ticket integration outcome)))

-- the ticket at an index has this fault for how the sending to an integration ended
abbrev pub HasFaultAt : List TicketData → ℕ → ℕ → Outcome → ReportFault → Type 0
HasFaultAt tickets index integration outcome cause =
    (ticket : TicketData) × (slice_get tickets index ≡ Some ticket)
    × (report_fault ticket (report_on ticket integration outcome) ≡ Some cause)

-- the notice of an integration is at this index
abbrev pub IsNoticeAt : ℕ → List NoticeData → ℕ → Type 0
IsNoticeAt integration notices index = position (λ n. n.integration == integration) notices ≡ Some index
