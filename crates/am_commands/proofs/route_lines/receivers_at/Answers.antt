use Rattle.std.proofs.Common.{◌≡◌, ℕ, ◌+◌, ◌<◌, List, [], ◌∷◌, ◌++◌, get_or, length, refl, take, string_bytes, ap, ◌∙◌, arith}
use Rattle.std.specs.List.{join_by}
use Rattle.am_alerts.proofs.Joins.{join_by-first, join_by-more}
use Rattle.am_alerts.specs.RoutingTree.{route_at}
use Rattle.am_commands.proofs.route_lines.receivers_at.Goals as goal
use Rattle.am_commands.proofs.route_lines.receivers_at.Goals.{then-index-gt0+in_ok-push_str, else-index-gt0}

pub loop-index-preserved : goal.loop-index-preserved
loop-index-preserved c =
    let receiver = λ (p : ℕ). (route_at c.args.routes.now p).receiver in
    let ps = c.args.positions.now in
    let p : ℕ = get_or ps c.loop-index.index 0 in
    let within : c.loop-index.index < length ps = c.loop-index-test.true in
    let here : c.as_str.result.now ≡ receiver p = c.as_str.ensures ∙ ap (λ r. r.receiver) c.route.ensures.route in
    let text : string_bytes c.if-index-gt0.receivers ++ receiver p ≡ [] ++ join_by receiver (44 ∷ []) (take (c.loop-index.index + 1) ps) =
    elim c.if-index-gt0.branch [
      | then-index-gt0+in_ok-push_str w ↦
          rw (w.receivers-is, w.in_ok-push_str.ensures.bytes)
          (join_by-more receiver (44 ∷ []) (string_bytes c.loop-index.receivers) [] ps c.loop-index.index p 0 within refl
          c.loop-index.invariant w.if-index-gt0.true)
      | else-index-gt0 w ↦
          rw w.receivers-is (join_by-first receiver (44 ∷ []) (string_bytes c.loop-index.receivers) [] ps c.loop-index.index p 0 within
          refl c.loop-index.invariant (omega (arith, w.if-index-gt0.false)))
    ] in
    c.in_ok-push_str-2.ensures.bytes ∙ ap (λ (t : List ℕ). string_bytes c.if-index-gt0.receivers ++ t) here ∙ text
