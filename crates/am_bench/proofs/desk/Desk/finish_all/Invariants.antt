use Rattle.std.specs.VecDeque.{deque_len}
use Rattle.am_bench.proofs.desk.Desk.finish_all.Given as goal

abbrev pub decreases-loop-left : goal.decreases-loop-left
decreases-loop-left l = deque_len l.left
