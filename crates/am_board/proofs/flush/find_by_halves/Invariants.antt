use Rattle.std.proofs.Common.{◌≤◌, ◌-◌}
use Rattle.std.specs.VecDeque.{deque_len}
use Rattle.am_board.proofs.flush.find_by_halves.Given as goal

-- the indexes that are left are there
abbrev pub invariant-loop-low : goal.invariant-loop-low
invariant-loop-low l = l.high ≤ deque_len l.flushes

abbrev pub decreases-loop-low : goal.decreases-loop-low
decreases-loop-low l = l.high - l.low
