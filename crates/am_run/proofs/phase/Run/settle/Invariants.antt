use Rattle.std.proofs.Common.{take}
use Rattle.am_run.specs.Runs.{Continues, Preserves}
use Rattle.am_run.specs.Steps.{Notes, notes_of}
use Rattle.am_run.specs.PhaseFaults.{HasNoFault}
use Rattle.am_run.proofs.phase.Run.settle.Given as goal

-- the successes among the notices so far are noted
abbrev pub invariant-loop-index : goal.invariant-loop-index
invariant-loop-index g l = record {
  preserves : Preserves l.fn.self l.self;
  continues : Continues l.fn.self l.self;
  noted : HasNoFault l.self.faults → Notes g.N.Name.terms (notes_of l.at l.reports l.own (take l.index l.own.notices)) l.fn.self.main l.self.main;
}
