use Rattle.std.proofs.Common.{◌≡◌, ◌++◌, string_bytes, length}
use Rattle.am_run.specs.Report.{notice_lines}
use Rattle.am_run.proofs.report.push_notices.Given as goal

-- what was added and the lines on the rest are the whole
abbrev pub invariant-loop-rest : goal.invariant-loop-rest
invariant-loop-rest l =
    string_bytes l.out ++ notice_lines l.config l.reports l.rest ≡ string_bytes l.fn.out ++ notice_lines l.config l.reports l.history

abbrev pub decreases-loop-rest : goal.decreases-loop-rest
decreases-loop-rest l = length l.rest
