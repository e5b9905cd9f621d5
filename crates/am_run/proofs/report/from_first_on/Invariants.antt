use Rattle.std.proofs.Common.{◌≡◌, ℕ, length}
use Rattle.am_run.specs.Report.{attempts_on}
use Rattle.am_run.proofs.report.from_first_on.Given as goal

-- none of the reports that were passed over is on the flush
abbrev pub invariant-loop-rest : goal.invariant-loop-rest
invariant-loop-rest l = (integration : ℕ) → attempts_on l.number integration l.rest ≡ attempts_on l.number integration l.reports

abbrev pub decreases-loop-rest : goal.decreases-loop-rest
decreases-loop-rest l = length l.rest
