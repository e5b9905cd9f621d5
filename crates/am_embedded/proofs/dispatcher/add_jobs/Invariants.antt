use Rattle.std.proofs.Common.{All}
use Rattle.am_pool.specs.Work.{IsReady}
use Rattle.am_embedded.proofs.dispatcher.add_jobs.Given as goal

abbrev pub invariant-loop-notice : goal.invariant-loop-notice
invariant-loop-notice l = All IsReady l.jobs.items
