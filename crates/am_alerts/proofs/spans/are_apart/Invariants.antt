use Rattle.std.proofs.Common.{◌≡◌, length}
use Rattle.am_alerts.specs.Spans.{are_apart}
use Rattle.am_alerts.proofs.spans.are_apart.Given as goal

abbrev pub invariant-loop-rest : goal.invariant-loop-rest
invariant-loop-rest l = are_apart l.spans ≡ are_apart l.rest

abbrev pub decreases-loop-rest : goal.decreases-loop-rest
decreases-loop-rest l = length l.rest
