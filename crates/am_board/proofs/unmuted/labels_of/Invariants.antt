use Rattle.std.proofs.Common.{◌≡◌, take}
use Rattle.am_model.specs.Begin.{label_sets}
use Rattle.am_board.proofs.unmuted.labels_of.Given as goal

-- the label sets of the alerts so far
abbrev pub invariant-loop-alert : goal.invariant-loop-alert
invariant-loop-alert l = l.all.items ≡ label_sets (take l.alert-index l.alerts)
