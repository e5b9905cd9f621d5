use Rattle.std.proofs.Common.{rules, ◌≡◌, ◌+◌, ◌≤◌, true, false, ap, sym, ◌∙◌, arith}
use Rattle.am_alerts.specs.Matcher.{match_all}
use Rattle.am_alerts.specs.RouteLayouts.{below_in}
use Rattle.am_alerts.proofs.Searches.{ends_within, matching-ends, matching-continues, matching-passes, opened_here}
use Rattle.am_alerts.proofs.routes.+search.Goals as goal

pub push_matching-overflow_add-end-in-loop-at : goal.push_matching-overflow_add-end-in-loop-at
push_matching-overflow_add-end-in-loop-at t c =
    let space : c.loop-at.at + 1 + below_in c.args.layouts.now c.loop-at.at ≤ c.args.to =
    ends_within c.args.children.now c.args.layouts.now c.loop-at.at c.args.to c.loop-at-test.true c.requires.within
    c.loop-at.invariant.preorder in
    omega (arith, space, c.below_in.ensures)

pub push_matching-push_reached-requires : goal.push_matching-push_reached-requires
push_matching-push_reached-requires t c =
    let o = opened_here c.args.children.now c.args.layouts.now c.loop-at.at c.args.to (c.loop-at.at + 1 + c.below_in.result)
    c.index-children-at.result c.loop-at-test.true c.requires.within c.index-children-at.is
    (ap (λ n. c.loop-at.at + 1 + n) c.below_in.ensures) c.loop-at.invariant.preorder in
    let space : c.loop-at.at + 1 + c.below_in.result ≤ c.args.to = o.ends in
    let begun = c.loop-at.invariant.begun in
    (search rules, (c.requires.few, (omega arith, (omega (arith, space, c.requires.within), o.below))))

pub push_matching-returns-then-not-child : goal.push_matching-returns-then-not-child
push_matching-returns-then-not-child t c =
    let matches : match_all c.index-children-at.result.matchers c.args.labels.now ≡ true =
    sym (rw c.as_slice.ensures at c.in_ok-all_match.ensures.value) ∙ c.if-branch.true in
    let ends : c.index-children-at.result.continues ≡ false = search rules in
    c.in_ok-push_reached.ensures
    ∙ matching-ends c.args.children.now c.args.layouts.now c.loop-at.at c.args.to (c.loop-at.at + 1 + c.below_in.result)
    c.index-children-at.result c.loop-at-test.true c.requires.within c.index-children-at.is
    (ap (λ n. c.loop-at.at + 1 + n) c.below_in.ensures) c.loop-at.invariant.preorder
    c.args.labels.now c.loop-at.found.items _ c.loop-at.invariant.so_far matches ends

pub push_matching-loop-at-preserved-else-not-child : goal.push_matching-loop-at-preserved-else-not-child
push_matching-loop-at-preserved-else-not-child t c =
    let o = opened_here c.args.children.now c.args.layouts.now c.loop-at.at c.args.to (c.loop-at.at + 1 + c.below_in.result)
    c.index-children-at.result c.loop-at-test.true c.requires.within c.index-children-at.is
    (ap (λ n. c.loop-at.at + 1 + n) c.below_in.ensures) c.loop-at.invariant.preorder in
    let begun = c.loop-at.invariant.begun in
    let matches : match_all c.index-children-at.result.matchers c.args.labels.now ≡ true =
    sym (rw c.as_slice.ensures at c.in_ok-all_match.ensures.value) ∙ c.if-branch.true in
    let on : c.index-children-at.result.continues ≡ true = search rules in
    record {
      begun = omega (arith, begun);
      ordered = o.ends;
      preorder = o.after;
      so_far =
          rw c.in_ok-push_reached.ensures
          (matching-continues c.args.children.now c.args.layouts.now c.loop-at.at c.args.to (c.loop-at.at + 1 + c.below_in.result)
          c.index-children-at.result c.loop-at-test.true c.requires.within c.index-children-at.is
          (ap (λ n. c.loop-at.at + 1 + n) c.below_in.ensures) c.loop-at.invariant.preorder
          c.args.labels.now c.loop-at.found.items _ c.loop-at.invariant.so_far matches on);
    }

pub push_matching-loop-at-preserved : goal.push_matching-loop-at-preserved
push_matching-loop-at-preserved t c =
    let o = opened_here c.args.children.now c.args.layouts.now c.loop-at.at c.args.to (c.loop-at.at + 1 + c.below_in.result)
    c.index-children-at.result c.loop-at-test.true c.requires.within c.index-children-at.is
    (ap (λ n. c.loop-at.at + 1 + n) c.below_in.ensures) c.loop-at.invariant.preorder in
    let begun = c.loop-at.invariant.begun in
    let fails : match_all c.index-children-at.result.matchers c.args.labels.now ≡ false =
    sym (rw c.as_slice.ensures at c.in_ok-all_match.ensures.value) ∙ c.if-branch.false in
    record {
      begun = omega (arith, begun);
      ordered = o.ends;
      preorder = o.after;
      so_far =
          matching-passes c.args.children.now c.args.layouts.now c.loop-at.at c.args.to (c.loop-at.at + 1 + c.below_in.result)
          c.index-children-at.result c.loop-at-test.true c.requires.within c.index-children-at.is
          (ap (λ n. c.loop-at.at + 1 + n) c.below_in.ensures) c.loop-at.invariant.preorder
          c.args.labels.now c.loop-at.found.items _ c.loop-at.invariant.so_far fails;
    }
