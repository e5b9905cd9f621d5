use Rattle.std.proofs.Common.{◌≡◌, ◌∙◌, ◌∷◌, [], false, length, sym, ap, subst, arith}
use Rattle.std.specs.Prelude.{IsPermutation}
use Rattle.std.specs.List.{list_all}
use Rattle.std.proofs.Math.Bool.{and-false}
use Rattle.std.proofs.lemmas.Iterator.Adapters.{YieldsList-from_vec}
use Rattle.std.proofs.lemmas.Iterator.Consumers.{YieldsList-turn}
use Rattle.am_model.specs.Finish.{has_succeeded}
use Rattle.am_board.specs.Refinement.{notified_state_of}
use Rattle.am_board.specs.LogRows.{log_rows}
use Rattle.am_board.proofs.lemmas.finish.Logging.{all-more, logged-at-most, logged-same, rows_with-same}
use Rattle.am_board.proofs.finish.log_rest.Goals as goal

pub overflow_add-logged : goal.overflow_add-logged
overflow_add-logged c =
    let items : c.into_iter-one-iterator.result.rest.items ≡ c.args.notified.items = c.into_iter-one-iterator.ensures.into_iter_gives.0 in
    let len : c.into_iter-one-iterator.result.rest.len ≡ length c.args.notified.items = c.into_iter-one-iterator.ensures.into_iter_gives.1 ∙ c.args.notified.ok.0 in
    let turn = YieldsList-turn (YieldsList-from_vec {s = c.into_iter-one-iterator.result} c.args.notified.items items len) c.loop-one.yielded c.loop-one.one-iterator c.loop-one.yielded_by c.next.result c.next.new.self c.in-Some.one c.in-Some.is c.next.ensures.steps in
    let so_far = logged-at-most c.args.outcomes.now c.loop-one.yielded in
    let here = logged-at-most c.args.outcomes.now (c.in-Some.one ∷ []) in
    let succeeded = sym c.has_succeeded.ensures ∙ c.if-has_succeeded.true in
    omega (arith, turn.0, so_far, here, c.loop-one.invariant.count, c.log_one-logged.ensures.count c.args.outcomes.now succeeded, c.args.notified.ok.0)

pub loop-one-preserved : goal.loop-one-preserved
loop-one-preserved c =
    let failed = sym c.has_succeeded.ensures ∙ c.if-has_succeeded.false in
    record {
      known = c.loop-one.invariant.known;
      count = c.loop-one.invariant.count ∙ ap length (logged-same c.args.outcomes.now c.loop-one.yielded c.in-Some.one failed);
      all = sym (all-more c.args.outcomes.now c.loop-one.yielded c.in-Some.one false failed ∙ and-false (list_all (λ a. has_succeeded c.args.outcomes.now (notified_state_of a)) c.loop-one.yielded));
      rows = λ f kept notified. subst (IsPermutation (log_rows c.loop-one.log)) (rows_with-same c.args.outcomes.now c.loop-one.yielded c.in-Some.one failed f c.args.t (log_rows c.args.log.now)) (c.loop-one.invariant.rows f kept notified);
    }
