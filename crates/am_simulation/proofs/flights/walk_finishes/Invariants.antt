use Rattle.std.proofs.Common.{◌≡◌, drop}
use Rattle.am_simulation.specs.Next.{next_finish}
use Rattle.am_simulation.proofs.flights.walk_finishes.Given as goal

-- none of the flushes before this position has all its ends
abbrev pub invariant-loop-position : goal.invariant-loop-position
invariant-loop-position l = next_finish l.now l.position (drop l.position l.list.items) ≡ next_finish l.now 0 l.list.items
