use Rattle.std.proofs.Common.{All}
use Rattle.am_pool.specs.Work.{IsReady}
use Rattle.am_code_tests.proofs.tests.workers.jobs_of.Given as goal

abbrev pub invariant-loop-notice : goal.invariant-loop-notice
invariant-loop-notice g l = All IsReady l.jobs.items
