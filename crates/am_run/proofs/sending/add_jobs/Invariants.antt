use Rattle.std.proofs.Common.{◌≡◌, ◌++◌, All, take}
use Rattle.am_pool.specs.Work.{IsReady}
use Rattle.am_run.specs.Steps.{StartsAt, notices_of}
use Rattle.am_run.specs.Turns.{sendable}
use Rattle.am_run.proofs.sending.add_jobs.Given as goal

abbrev pub invariant-loop-notice : goal.invariant-loop-notice
invariant-loop-notice l = record {
  ready : All IsReady l.jobs.items;
  starts : All (StartsAt l.at) l.jobs.items;
  notices : notices_of l.jobs.items ≡ notices_of l.fn.jobs.items ++ sendable (take l.notice-index l.notices);
}
