-- A notice that a courier delivered which answers so and never refuses.
use Rattle.std.proofs.Common.{◌≡◌, ℕ, ◌+◌, Bool, true, false, All, List, refl, subst, arith, if◌then◌else◌}
use Rattle.am_model.specs.Notice.{NoticeData}
use Rattle.am_model.specs.declared.notice.Report.{Report}
use Rattle.am_retry.specs.Attempts.{tries_of}
use Rattle.am_pool.proofs.Determined.{all_behind}
use Rattle.am_pool.specs.Delivery.{IsDelivery, IsReportOn, is_starved}
use Rattle.am_pool.specs.Sendings.{IsAnsweredBy, IsSentFrom}
use Rattle.am_pool.specs.Tries.{all_tried_for}
use Rattle.am_pool.specs.declared.courier.Sent.{Sent}
use Rattle.am_pool.specs.declared.courier.Tried.{Tried}

not_starved : (starved : Bool) (old new : ℕ) → old ≡ 0 → new ≡ 0 → new ≡ old + (if starved then 1 else 0) → starved ≡ false
not_starved true old new none nothing is = absurd (omega (arith, none, nothing, is))
not_starved false old new none nothing is = refl

pub delivered : (answer : ℕ → ℕ → ℕ → ℕ → Sent) (n : NoticeData) (start : ℕ) (tries since : List Tried) (refusals refusals_since : ℕ) (report : Report)
    → IsReportOn n report → IsDelivery n start tries refusals since refusals_since report → All (IsAnsweredBy answer) since → refusals ≡ 0 → refusals_since ≡ 0
    → IsSentFrom (IsAnsweredBy answer) start n report
delivered answer n start tries since refusals refusals_since report names delivery answered none nothing = (
  record {
    names = names;
    responses = delivery.responses;
    answered = all_behind (IsAnsweredBy answer) tries (all_tried_for n (tries_of start delivery.responses)) (subst (All (IsAnsweredBy answer)) delivery.appended answered);
    has = delivery.has;
    attempts_are = delivery.attempts_are;
    end_is = delivery.end_is;
  },
  not_starved (is_starved report.outcome) refusals refusals_since none nothing delivery.refused,
)
