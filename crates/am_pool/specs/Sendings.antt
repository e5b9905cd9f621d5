-- Sendings: how attempts are answered, and the reports on notices that are sent in such attempts.
use Rattle.std.specs.Prelude.{◌≡◌, ℕ, ◌+◌, ◌-◌, ◌^◌, min, false, All, List, length, Option, Some, None}
use Rattle.am_model.specs.Notice.{NoticeData}
use Rattle.am_model.specs.Ticket.{TicketData, outcome_of}
use Rattle.am_model.specs.declared.notice.Report.{Report}
use Rattle.am_model.specs.declared.record.Call.{Call}
use Rattle.am_model.specs.declared.record.Call.TheVariants as call
use Rattle.am_retry.specs.Attempts.{Response, end_after, tries_of}
use Rattle.am_retry.specs.Outcome.{HasOutcome}
use Rattle.am_pool.specs.Delivery.{IsReportOn, is_starved}
use Rattle.am_pool.specs.Tries.{all_tried_for}
use Rattle.am_pool.specs.declared.courier.Sent.{Sent}
use Rattle.am_pool.specs.declared.courier.Tried.{Tried}
use Rattle.am_pool.specs.declared.worker.Job.{Job}

-- so many milliseconds after a time, or the last time that 64 bits say
abbrev pub later : ℕ → ℕ → ℕ
later at milliseconds = min (at + milliseconds) (2 ^ 64 - 1)

-- how a try went: its answer and its end
abbrev pub sent_in : Tried → Sent
sent_in t = record { answer = t.answer; ended = t.ended }

-- a try went as this function says, of its flush, its integration, its number and its time
abbrev pub IsAnsweredBy : (ℕ → ℕ → ℕ → ℕ → Sent) → Tried → Type 0
IsAnsweredBy answer t = sent_in t ≡ answer t.ticket t.integration t.attempt t.at

-- a report on a notice that was sent from this time on, in tries that are answered so: it names the notice, and says the outcome,
-- the number and the end that the retry rules give for these answers
pub record IsSending (Answers : Tried → Type 0) (start : ℕ) (notice : NoticeData) (report : Report) : Type 0 where
  pub names : IsReportOn notice report
  pub responses : List Response
  pub answered : All Answers (all_tried_for notice (tries_of start responses))
  pub has : HasOutcome start notice.deadline responses report.outcome
  pub attempts_are : report.attempts ≡ length responses
  pub end_is : report.ended ≡ end_after start responses

-- no attempt that was due lacked memory
abbrev pub IsNotStarved : Report → Type 0
IsNotStarved report = is_starved report.outcome ≡ false

-- the same, and each attempt that was due was made
abbrev pub IsSentFrom : (Tried → Type 0) → ℕ → NoticeData → Report → Type 0
IsSentFrom Answers start notice report = IsSending Answers start notice report × IsNotStarved report

-- a report of a job whose tries are answered so
abbrev pub IsSendingOf : (Tried → Type 0) → Job → Report → Type 0
IsSendingOf Answers job report = IsSending Answers job.start job.notice.now report

-- when the sending of an integration's notice was over, which began at this time
abbrev pub end_on : ℕ → Option Report → ℕ
end_on at None = at
end_on at (Some r) = r.ended

-- the note of a notice of a ticket, at this time and with what is recorded
abbrev pub note_at : ℕ → TicketData → NoticeData → Call
note_at now t n = call.Note now t.number n.integration (outcome_of t.outcomes n.integration)
