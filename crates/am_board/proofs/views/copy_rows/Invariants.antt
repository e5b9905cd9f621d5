use Rattle.std.proofs.Common.{◌≡◌, take}
use Rattle.am_board.specs.LogRows.{log_rows}
use Rattle.am_board.proofs.views.copy_rows.Given as goal

-- the rows of the keys so far
abbrev pub invariant-loop-i : goal.invariant-loop-i
invariant-loop-i l = l.rows.items ≡ log_rows (take l.i l.log)
