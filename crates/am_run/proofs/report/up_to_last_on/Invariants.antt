use Rattle.std.proofs.Common.{◌≡◌, ℕ, length}
use Rattle.am_run.specs.Report.{attempts_on}
use Rattle.am_run.proofs.report.up_to_last_on.Given as goal

-- none of the reports that were passed over is on the flush
abbrev pub invariant-loop-other : goal.invariant-loop-other
invariant-loop-other l = (integration : ℕ) → attempts_on l.number integration l.rest ≡ attempts_on l.number integration l.reports

abbrev pub decreases-loop-other : goal.decreases-loop-other
decreases-loop-other l = length l.rest
