use Rattle.std.proofs.Common.{◌≡◌, All, map, take}
use Rattle.am_pool.specs.Work.{IsReady}
use Rattle.am_run.specs.Steps.{StartsAt, notices_of, opened_of}
use Rattle.am_run.specs.Turns.{to_send}
use Rattle.am_run.proofs.sending.jobs_of.Given as goal

abbrev pub invariant-loop-own : goal.invariant-loop-own
invariant-loop-own g l = record {
  ready : All IsReady l.jobs.items;
  starts : All (StartsAt l.at) l.jobs.items;
  notices : notices_of l.jobs.items ≡ to_send (map opened_of (take l.own-index l.tickets));
}
