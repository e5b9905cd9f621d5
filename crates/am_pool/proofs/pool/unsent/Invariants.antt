use Rattle.std.proofs.Common.{◌≡◌, length}
use Rattle.am_pool.proofs.pool.unsent.Given as goal

abbrev pub invariant-loop-job : goal.invariant-loop-job
invariant-loop-job l = length l.reports.items ≡ l.job-index
