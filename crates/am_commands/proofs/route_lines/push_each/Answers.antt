use Rattle.std.proofs.Common.{◌≡◌, ◌+◌, ◌<◌, [], ◌∷◌, ◌++◌, length, take, string_bytes, ◌∙◌, arith}
use Rattle.std.specs.List.{join_by}
use Rattle.am_alerts.proofs.Joins.{join_by-first, join_by-more}
use Rattle.am_commands.specs.RouteLines.{matcher_text}
use Rattle.am_commands.proofs.route_lines.push_each.Goals as goal
use Rattle.am_commands.proofs.route_lines.push_each.Goals.{then-index-gt0+in_ok-push_str, else-index-gt0}

pub loop-index-preserved : goal.loop-index-preserved
loop-index-preserved c =
    let m = c.parts.result.now in
    let old = string_bytes c.args.lines.now in
    let ms = c.args.matchers.now in
    let within : c.loop-index.index < length ms = c.loop-index-test.true in
    let text : string_bytes c.if-index-gt0.lines ++ matcher_text m ≡ old ++ join_by matcher_text (44 ∷ []) (take (c.loop-index.index + 1) ms) =
    elim c.if-index-gt0.branch [
      | then-index-gt0+in_ok-push_str w ↦
          rw (w.lines-is, w.in_ok-push_str.ensures.bytes)
          (join_by-more matcher_text (44 ∷ []) (string_bytes c.loop-index.lines) old ms c.loop-index.index m c.index-matchers-index.result within
          (c.parts.ensures.parts ∙ c.index-matchers-index.is) c.loop-index.invariant w.if-index-gt0.true)
      | else-index-gt0 w ↦
          rw w.lines-is (join_by-first matcher_text (44 ∷ []) (string_bytes c.loop-index.lines) old ms c.loop-index.index m
          c.index-matchers-index.result within (c.parts.ensures.parts ∙ c.index-matchers-index.is) c.loop-index.invariant
          (omega (arith, w.if-index-gt0.false)))
    ] in
    c.in_ok-push_matcher.ensures ∙ text
