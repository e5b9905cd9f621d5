use Rattle.std.proofs.Common.{◌≡◌, drop, reverse}
use Rattle.am_simulation.specs.DispatcherChange.{set_again}
use Rattle.am_simulation.specs.Seen.{SeesAll}
use Rattle.am_simulation.proofs.dispatcher_change.last_first.Given as goal

-- the plans so far, from the end, were seen, and of them what is set again was added
abbrev pub invariant-loop-index : goal.invariant-loop-index
invariant-loop-index l = record {
  sees : SeesAll (drop l.index l.done) l.later;
  added : l.again.items ≡ reverse (set_again l.carryover l.at (drop l.index l.done));
}
