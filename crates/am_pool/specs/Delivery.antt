-- Delivery: the delivery of a notice. A courier makes the attempts that the retry outcome defines.
use Rattle.std.specs.Prelude.{◌≡◌, ℕ, ◌+◌, Bool, true, false, if◌then◌else◌, List, ◌++◌, length}
use Rattle.am_retry.specs.declared.outcome.Outcome.{Outcome}
use Rattle.am_retry.specs.declared.outcome.Outcome.TheVariants.{Delivered, Refused, Expired, Starved}
use Rattle.am_retry.specs.Attempts.{Response, end_after, tries_of}
use Rattle.am_retry.specs.Outcome.{HasOutcome}
use Rattle.am_model.specs.Notice.{NoticeData}
use Rattle.am_model.specs.declared.notice.Report.{Report}
use Rattle.am_pool.specs.declared.courier.Tried.{Tried}
use Rattle.am_pool.specs.Tries.{all_tried_for}

-- an attempt was due, and wasn't made
abbrev pub is_starved : Outcome → Bool
is_starved Delivered = false
is_starved Refused = false
is_starved Expired = false
is_starved Starved = true

-- a report names the desk, the flush and the integration of a notice
abbrev pub IsReportOn : NoticeData → Report → Type 0
IsReportOn notice report =
    (report.board_id ≡ notice.board_id) × (report.ticket ≡ notice.ticket) × (report.integration ≡ notice.integration)

-- a notice with this deadline in place of its own
abbrev pub with_deadline : ℕ → NoticeData → NoticeData
with_deadline deadline notice = record notice { deadline = deadline }

-- from a start on, a notice was sent by a courier that had made these tries and refusals, and has made those since: there are answers
-- whose tries, as those of the notice, are just the ones that were appended, and whose outcome, number and end the report says; the
-- courier refused one more attempt exactly where the outcome is Starved, which says that an attempt was due
pub record IsDelivery (notice : NoticeData) (start : ℕ) (tries : List Tried) (refusals : ℕ)
    (tries_since : List Tried) (refusals_since : ℕ) (report : Report) : Type 0 where
  pub responses : List Response
  pub appended : tries_since ≡ tries ++ all_tried_for notice (tries_of start responses)
  pub has : HasOutcome start notice.deadline responses report.outcome
  pub attempts_are : report.attempts ≡ length responses
  pub end_is : report.ended ≡ end_after start responses
  pub refused : refusals_since ≡ refusals + (if is_starved report.outcome then 1 else 0)
