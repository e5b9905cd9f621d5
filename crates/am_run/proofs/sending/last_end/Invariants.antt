use Rattle.std.proofs.Common.{◌≡◌, take}
use Rattle.am_run.specs.Turns.{last_end, reports_on}
use Rattle.am_run.proofs.sending.last_end.Given as goal

abbrev pub invariant-loop-report : goal.invariant-loop-report
invariant-loop-report l = l.end ≡ last_end l.at (reports_on l.ticket (take l.report-index l.reports))
