use Rattle.std.proofs.Common.{◌≡◌, length}
use Rattle.am_alerts.specs.Duration.{unit_named}
use Rattle.am_alerts.proofs.duration.unit_named.Given as goal

-- the unit is the one that the units looked at so far leave
abbrev pub invariant-loop-rest : goal.invariant-loop-rest
invariant-loop-rest l = unit_named l.symbol l.units ≡ unit_named l.symbol l.rest

abbrev pub decreases-loop-rest : goal.decreases-loop-rest
decreases-loop-rest l = length l.rest
