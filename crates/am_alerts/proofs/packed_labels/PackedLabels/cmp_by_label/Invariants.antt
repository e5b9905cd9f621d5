use Rattle.std.proofs.Common.{◌≡◌, drop}
use Rattle.am_alerts.specs.Labels.{label_set_cmp}
use Rattle.am_alerts.proofs.packed_labels.PackedLabels.cmp_by_label.Given as goal

-- the labels from here on have the order of all
abbrev pub invariant-loop-i : goal.invariant-loop-i
invariant-loop-i l = label_set_cmp (drop l.i l.self) (drop l.i l.other) ≡ label_set_cmp l.self l.other
