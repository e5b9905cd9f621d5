use Rattle.std.proofs.Common.{◌≡◌, ◌+◌, ◌<◌, [], ◌∷◌, ◌++◌, length, take, string_bytes, ◌∙◌, arith}
use Rattle.std.specs.List.{join_by}
use Rattle.am_alerts.proofs.Joins.{join_by-first, join_by-more}
use Rattle.am_model.specs.RouteKeys.{matcher_text}
use Rattle.am_model.proofs.route_keys.push_list.Goals as goal
use Rattle.am_model.proofs.route_keys.push_list.Goals.{then-i-gt0+in_ok-push_str, else-i-gt0}

pub loop-i-preserved : goal.loop-i-preserved
loop-i-preserved c =
    let parts = c.index-matchers-i.result in
    let old = string_bytes c.args.out.now in
    let matchers = c.args.matchers.now in
    let within : c.loop-i.i < length matchers = omega (arith, c.loop-i-test.true) in
    let text : string_bytes c.if-i-gt0.out ++ matcher_text parts ≡ old ++ join_by matcher_text (44 ∷ []) (take (c.loop-i.i + 1) matchers) =
    elim c.if-i-gt0.branch [
      | then-i-gt0+in_ok-push_str w ↦
          rw (w.out-is, w.in_ok-push_str.ensures.bytes)
          (join_by-more matcher_text (44 ∷ []) (string_bytes c.loop-i.out) old matchers c.loop-i.i parts parts within c.index-matchers-i.is
          c.loop-i.invariant w.if-i-gt0.true)
      | else-i-gt0 w ↦
          rw w.out-is (join_by-first matcher_text (44 ∷ []) (string_bytes c.loop-i.out) old matchers c.loop-i.i parts parts within
          c.index-matchers-i.is c.loop-i.invariant (omega (arith, w.if-i-gt0.false)))
    ] in
    c.in_ok-push_matcher.ensures ∙ text
