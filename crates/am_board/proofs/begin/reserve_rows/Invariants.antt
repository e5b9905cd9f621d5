use Rattle.am_board.proofs.lemmas.begin.ReservedRows.{ReservingRows}
use Rattle.am_board.proofs.begin.reserve_rows.Given as goal

-- no row changes, known keys stay known, and the keys so far are known
abbrev pub invariant-loop-notified : goal.invariant-loop-notified
invariant-loop-notified l = ReservingRows l.fn.log l.log l.notified-items l.flush.group l.notified-index
