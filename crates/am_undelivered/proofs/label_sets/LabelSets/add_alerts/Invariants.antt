use Rattle.std.proofs.Common.{◌≡◌, ◌++◌, map, take}
use Rattle.am_timeline.specs.Timeline.{labels_of}
use Rattle.am_undelivered.proofs.label_sets.LabelSets.add_alerts.Given as goal

-- the label sets of the alerts so far were added
abbrev pub invariant-loop-alert : goal.invariant-loop-alert
invariant-loop-alert l = l.self ≡ l.fn.self ++ map labels_of (take l.alert-index l.alerts)
