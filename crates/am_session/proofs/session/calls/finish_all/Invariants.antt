use Rattle.std.proofs.Common.{◌≡◌}
use Rattle.std.specs.VecDeque.{deque_len}
use Rattle.am_session.specs.declared.ticket.TheConstants.{BOARD_ID}
use Rattle.am_session.proofs.session.calls.finish_all.Given as goal

-- the board is the program's
abbrev pub invariant-loop-left : goal.invariant-loop-left
invariant-loop-left l = l.board.id ≡ BOARD_ID

abbrev pub decreases-loop-left : goal.decreases-loop-left
decreases-loop-left l = deque_len l.left
