use Rattle.std.proofs.Common.{◌≡◌, ◌++◌, string_bytes, take}
use Rattle.std.specs.List.{flat_map}
use Rattle.am_run.specs.Report.{group_line}
use Rattle.am_run.proofs.report.push_groups.Given as goal

-- the lines so far were added
abbrev pub invariant-loop-group : goal.invariant-loop-group
invariant-loop-group l = string_bytes l.out ≡ string_bytes l.fn.out ++ flat_map (group_line l.config) (take l.group-index l.groups)
