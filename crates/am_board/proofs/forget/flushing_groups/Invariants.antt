use Rattle.std.proofs.Common.{◌≡◌, take, map}
use Rattle.std.specs.VecDeque.{deque_len}
use Rattle.am_board.proofs.forget.flushing_groups.Given as goal

-- the groups of the flushes so far
abbrev pub invariant-loop-i : goal.invariant-loop-i
invariant-loop-i l = (l.i-end ≡ deque_len l.flushes) × (l.names.items ≡ map (λ f. f.group) (take l.i l.flushes.items))
