use Rattle.std.proofs.Common.{◌≡◌, take, None}
use Rattle.am_alerts.specs.Fault.{first_fault}
use Rattle.am_alerts.specs.Labels.{pair_fault, label_in}
use Rattle.am_alerts.proofs.label_pairs.check_pairs.Given as goal

-- the pairs so far are labels
abbrev pub invariant-loop-pair : goal.invariant-loop-pair
invariant-loop-pair l = first_fault (λ p. pair_fault (label_in p)) (take l.pair-index l.pairs) ≡ None
