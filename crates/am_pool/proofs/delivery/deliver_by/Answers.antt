use Rattle.std.proofs.Common.{◌≡◌, ◌+◌, [], ◌∷◌, ◌++◌, sym, ap, ◌∙◌}
use Rattle.am_retry.specs.Attempts.{one_more}
use Rattle.am_retry.specs.declared.retry.Step.TheVariants.{Attempt}
use Rattle.am_pool.specs.Tries.{tried}
use Rattle.am_pool.proofs.Appended.{appended_once_more}
use Rattle.am_pool.proofs.delivery.deliver_by.Goals as goal

-- the answer that was sent is one more of those that led here
pub loop-outcome-preserved : goal.loop-outcome-preserved
loop-outcome-preserved g c =
    let n = c.args.notice.now in
    let before = c.loop-outcome.invariant in
    let sent = c.in-Ok.sent in
    let due : c.loop-outcome.retry.step ≡ Attempt c.in-Attempt.at = sym c.next.ensures.value ∙ c.in-Attempt.is in
    let taken = c.answer.ensures.holds c.args.start c.args.deadline c.in-Attempt.at before.0 due before.1 in
    let tries = c.answer.ensures.tries c.args.start c.args.deadline c.in-Attempt.at before.0 due before.1 in
    let now = c.in-Ok.ensures.sent ∙ ap (λ k. g.C.Courier.tries c.loop-outcome.courier ++ tried n (k + 1) c.in-Attempt.at sent ∷ []) c.attempts.ensures.value in (
      one_more before.0 sent.answer sent.ended,
      taken,
      appended_once_more n _ _ _ _ _ _ before.2 now tries,
      c.in-Ok.ensures.willing ∙ before.3,
    )
