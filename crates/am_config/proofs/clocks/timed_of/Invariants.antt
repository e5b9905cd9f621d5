use Rattle.std.proofs.Common.{take}
use Rattle.am_config.specs.Made.{HoldsAlike}
use Rattle.am_config.proofs.clocks.timed_of.Given as goal

-- the intervals on clocks so far hold where those so far do
abbrev pub invariant-loop-one : goal.invariant-loop-one
invariant-loop-one l = HoldsAlike l.timed.items (take l.one-index l.placed)
