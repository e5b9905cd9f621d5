use Rattle.std.proofs.Common.{subst, sym}
use Rattle.am_run.specs.Interleaving.{RanConcurrently}
use Rattle.am_run.specs.Runs.{lanes_of}
use Rattle.am_run.specs.LaneStates.{passes_in}
use Rattle.am_run.specs.Stops.{LanesStop}
use Rattle.am_run.proofs.lemmas.lanes.Meetings.{quiet_first}
use Rattle.am_run.proofs.phase.Run.send_all.Goals as goal

pub returns-clause-concurrent : goal.returns-clause-concurrent
returns-clause-concurrent g c none =
    let was = c.args.self.now in
    let settled = c.settle_all.ensures in
    let joined = c.run_concurrently-reports.new.self in
    let ran = c.run_concurrently-reports.ensures.concurrent (settled.preserves.2 none) in
    record {
      joined = joined.main;
      ran = subst (λ v. RanConcurrently was.main joined.main (lanes_of was) (passes_in v.items)) (sym settled.preserves.0) ran;
      begins = (settled.noted none).made.2;
    }

pub returns-clause-sent : goal.returns-clause-sent
returns-clause-sent g c none =
    let settled = c.settle_all.ensures in
    let ran = c.run_concurrently-reports.ensures.concurrent (settled.preserves.2 none) in
    record {
      sent = rw c.as_slice.ensures.value at (c.run_concurrently-reports.ensures.sent (settled.preserves.2 none));
      recorded = rw c.as_slice-2.ensures.value at (settled.recorded none);
      noted = quiet_first g.N.Name.terms _ _ _ _ ran.quiet (rw c.as_slice-2.ensures.value at (settled.noted none));
    }

pub returns-clause-full : goal.returns-clause-full
returns-clause-full g c well full =
    let was = c.args.self.now in
    let settled = c.settle_all.ensures in
    let joined = c.run_concurrently-reports.new.self in
    let stop = c.run_concurrently-reports.ensures.full well (settled.continues.1 full) in
    record {
      joined = joined.main;
      stop = subst (λ v. LanesStop g.N.Name.terms c.args.at c.args.lanes.items was.main joined.main (lanes_of was) (passes_in v.items)) (sym settled.preserves.0) stop;
      begins = settled.continues.0;
    }
