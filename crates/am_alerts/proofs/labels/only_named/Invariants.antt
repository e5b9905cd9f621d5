use Rattle.std.proofs.Common.{◌≡◌, take}
use Rattle.am_alerts.specs.Labels.{labels_in, only_named}
use Rattle.am_alerts.proofs.labels.only_named.Given as goal

abbrev pub invariant-loop-i : goal.invariant-loop-i
invariant-loop-i l = labels_in l.kept.items ≡ only_named l.names (take l.i l.labels)
