use Rattle.std.proofs.Common.{◌≡◌, drop}
use Rattle.am_run.specs.Turns.{report_on}
use Rattle.am_run.proofs.sending.end_on.Given as goal

-- none of the reports so far is on the notice
abbrev pub invariant-loop-report : goal.invariant-loop-report
invariant-loop-report l = report_on l.ticket l.integration l.reports ≡ report_on l.ticket l.integration (drop l.report-index l.reports)
