use Rattle.std.proofs.Common.{◌≡◌, ◌++◌, string_bytes, take}
use Rattle.std.specs.List.{flat_map}
use Rattle.am_run.specs.Report.{row_line}
use Rattle.am_run.proofs.report.push_rows.Given as goal

-- the lines so far were added
abbrev pub invariant-loop-row : goal.invariant-loop-row
invariant-loop-row l = string_bytes l.out ≡ string_bytes l.fn.out ++ flat_map (row_line l.config) (take l.row-index l.rows)
