use Rattle.std.proofs.Common.{◌≡◌, ◌+◌, ◌<◌, [], ◌∷◌, ◌++◌, length, take, string_bytes, ◌∙◌, arith}
use Rattle.std.specs.List.{join_by}
use Rattle.am_alerts.specs.declared.labels.Label.{Label}
use Rattle.am_alerts.specs.Labels.{label_in}
use Rattle.am_alerts.specs.LabelText.{label_text, BeginsWith}
use Rattle.am_alerts.proofs.Escapes.{BeginsWith-append, BeginsWith-trans}
use Rattle.am_alerts.proofs.Joins.{join_by-first, join_by-more}
use Rattle.am_alerts.proofs.label_text.push_labels.Goals as goal
use Rattle.am_alerts.proofs.label_text.push_labels.Goals.{then-i-gt0+in_ok-push_str, else-i-gt0}

pub loop-i-preserved : goal.loop-i-preserved
loop-i-preserved c =
    let label : Label = label_in c.pair.result in
    let old = string_bytes c.args.out.now in
    let labels = c.args.labels.now in
    let within : c.loop-i.i < length labels = omega (arith, c.loop-i-test.true, c.len-i-end.ensures.length) in
    let text : string_bytes c.if-i-gt0.out ++ label_text label ≡ old ++ join_by label_text (44 ∷ []) (take (c.loop-i.i + 1) labels) =
    elim c.if-i-gt0.branch [
      | then-i-gt0+in_ok-push_str w ↦
          rw (w.out-is, w.in_ok-push_str.ensures.bytes)
          (join_by-more label_text (44 ∷ []) (string_bytes c.loop-i.out) old labels c.loop-i.i label label within (c.pair.ensures label)
          c.loop-i.invariant.text w.if-i-gt0.true)
      | else-i-gt0 w ↦
          rw w.out-is (join_by-first label_text (44 ∷ []) (string_bytes c.loop-i.out) old labels c.loop-i.i label label within
          (c.pair.ensures label) c.loop-i.invariant.text (omega (arith, w.if-i-gt0.false)))
    ] in
    let begins : BeginsWith (string_bytes c.if-i-gt0.out) old =
    elim c.if-i-gt0.branch [
      | then-i-gt0+in_ok-push_str w ↦
          rw (w.out-is, w.in_ok-push_str.ensures.bytes)
          (BeginsWith-append (string_bytes c.loop-i.out) (44 ∷ []) old c.loop-i.invariant.begins)
      | else-i-gt0 w ↦ rw w.out-is c.loop-i.invariant.begins
    ] in
    record {
      text = c.in_ok-push_label.ensures.text ∙ text;
      begins = BeginsWith-trans (string_bytes c.push_label.new.out) (string_bytes c.if-i-gt0.out) old c.push_label.ensures.begins begins;
    }
