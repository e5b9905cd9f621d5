use Rattle.std.proofs.Common.{All}
use Rattle.am_pool.specs.Work.{IsReady}
use Rattle.am_embedded.proofs.dispatcher.jobs_of.Given as goal

abbrev pub invariant-loop-own : goal.invariant-loop-own
invariant-loop-own l = All IsReady l.jobs.items
