use Rattle.std.proofs.Common.{◌≡◌, ◌≤◌, length, take}
use Rattle.am_board.specs.LogRows.{log_rows}
use Rattle.am_board.proofs.views.count_rows.Given as goal

-- the rows of the keys so far
abbrev pub invariant-loop-i : goal.invariant-loop-i
invariant-loop-i l = record {
  count : l.count ≡ length (log_rows (take l.i l.log));
  within : l.count ≤ l.i;
}
