use Rattle.std.proofs.Common.{◌-◌, length, true}
use Rattle.am_run.specs.Runs.{Preserves}
use Rattle.am_run.specs.Steps.{Begins}
use Rattle.am_run.specs.PhaseFaults.{HasNoFault}
use Rattle.am_run.proofs.phase.Run.begin_all.Given as goal

-- all begins so far found a group due
abbrev pub invariant-loop : goal.invariant-loop
invariant-loop g l = record {
  preserves : Preserves l.initial.self l.self;
  begins : HasNoFault l.self.faults → Begins g.N.Name.terms true true l.at l.initial.self.main l.self.main l.initial.tickets.items l.tickets.items;
  well : HasNoFault l.initial.self.faults → HasNoFault l.self.faults;
}

-- how many records there can be more
abbrev pub decreases-loop : goal.decreases-loop
decreases-loop g l = g.N.Name.terms.config.limits.history - length l.self.main.log
