use Rattle.std.proofs.Common.{◌≡◌, ◌++◌, map, take}
use Rattle.am_undelivered.proofs.label_sets.LabelSets.add_muted.Given as goal

-- the label sets of the muted alerts so far were added
abbrev pub invariant-loop-alert : goal.invariant-loop-alert
invariant-loop-alert l = l.self ≡ l.fn.self ++ map (λ m. m.labels) (take l.alert-index l.muted)
