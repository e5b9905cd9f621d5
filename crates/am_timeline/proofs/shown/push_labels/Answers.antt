use Rattle.std.proofs.Common.{◌≡◌, ◌+◌, ◌<◌, [], ◌∷◌, ◌++◌, length, take, string_bytes, ◌∙◌, arith}
use Rattle.std.specs.List.{join_by}
use Rattle.am_alerts.specs.declared.labels.Label.{Label}
use Rattle.am_alerts.specs.Labels.{label_in}
use Rattle.am_alerts.proofs.Joins.{join_by-first, join_by-more}
use Rattle.am_timeline.specs.Shown.{label_shown}
use Rattle.am_timeline.proofs.shown.push_labels.Goals as goal
use Rattle.am_timeline.proofs.shown.push_labels.Goals.{then-i-gt0+in_ok-push_str, else-i-gt0}

pub loop-i-preserved : goal.loop-i-preserved
loop-i-preserved c =
    let label : Label = label_in c.pair.result in
    let out = string_bytes c.loop-i.out in
    let old = string_bytes c.args.out.now in
    let labels = c.args.labels.now in
    let within : c.loop-i.i < length labels = omega (arith, c.loop-i-test.true, c.len-i-end.ensures.length) in
    let text : string_bytes c.if-i-gt0.out ++ label_shown label ≡ old ++ join_by label_shown (44 ∷ []) (take (c.loop-i.i + 1) labels) =
    elim c.if-i-gt0.branch [
      | then-i-gt0+in_ok-push_str w ↦
          rw (w.out-is, w.in_ok-push_str.ensures.bytes) (join_by-more label_shown (44 ∷ []) out old labels c.loop-i.i label label within (c.pair.ensures label) c.loop-i.invariant w.if-i-gt0.true)
      | else-i-gt0 w ↦
          rw w.out-is (join_by-first label_shown (44 ∷ []) out old labels c.loop-i.i label label within (c.pair.ensures label) c.loop-i.invariant (omega (arith, w.if-i-gt0.false)))
    ] in
    c.in_ok-push_label.ensures ∙ text
