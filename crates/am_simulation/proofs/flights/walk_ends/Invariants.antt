use Rattle.std.proofs.Common.{◌≡◌, drop}
use Rattle.am_simulation.specs.Next.{earlier, next_end}
use Rattle.am_simulation.proofs.flights.walk_ends.Given as goal

-- the first end so far, or one of the flushes that are left
abbrev pub invariant-loop-position : goal.invariant-loop-position
invariant-loop-position l = earlier l.first (next_end l.position (drop l.position l.list.items)) ≡ next_end 0 l.list.items
