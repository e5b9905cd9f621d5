use Rattle.std.proofs.Common.{vec_len}
use Rattle.am_run.specs.Runs.{Continues, Preserves}
use Rattle.am_run.specs.PhaseFaults.{HasNoFault}
use Rattle.am_run.proofs.lemmas.phases.Turns.{FinishesSoFar}
use Rattle.am_run.proofs.phase.Run.finish_all.Given as goal

abbrev pub invariant-loop-left : goal.invariant-loop-left
invariant-loop-left g l = record {
  preserves : Preserves l.fn.self l.self;
  continues : Continues l.fn.self l.self;
  finished : HasNoFault l.self.faults → FinishesSoFar l.at l.reports l.fn.tickets.items l.left.items l.fn.self.main l.self.main;
}

abbrev pub decreases-loop-left : goal.decreases-loop-left
decreases-loop-left g l = vec_len l.left
