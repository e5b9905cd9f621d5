use Rattle.std.proofs.Common.{◌≡◌, take}
use Rattle.am_alerts.specs.Labels.{with_values, labels_in}
use Rattle.am_alerts.proofs.label_pairs.with_values.Given as goal

abbrev pub invariant-loop-pair : goal.invariant-loop-pair
invariant-loop-pair l = labels_in l.kept.items ≡ with_values (labels_in (take l.pair-index l.pairs))
