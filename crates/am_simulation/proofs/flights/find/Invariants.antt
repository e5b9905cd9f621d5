use Rattle.std.proofs.Common.{◌≤◌, ◌-◌, deque_len}
use Rattle.am_simulation.proofs.flights.find.Given as goal

-- the positions that are left are there
abbrev pub invariant-loop-low : goal.invariant-loop-low
invariant-loop-low l = l.high ≤ deque_len l.list

abbrev pub decreases-loop-low : goal.decreases-loop-low
decreases-loop-low l = l.high - l.low
