use Rattle.std.proofs.Common.{◌≡◌}
use Rattle.am_simulation.specs.DispatcherChange.{loads}
use Rattle.am_simulation.proofs.dispatcher_change.loads.Given as goal

-- loads of the rows so far
abbrev pub invariant-loop-row : goal.invariant-loop-row
invariant-loop-row l = l.plans.items ≡ loads l.at l.yielded
