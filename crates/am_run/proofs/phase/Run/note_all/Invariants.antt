use Rattle.std.proofs.Common.{take}
use Rattle.am_run.specs.Runs.{Continues, Preserves}
use Rattle.am_run.specs.Steps.{Notes, notes_of_all}
use Rattle.am_run.specs.PhaseFaults.{HasNoFault}
use Rattle.am_run.proofs.phase.Run.note_all.Given as goal

-- the successes of the tickets so far are noted
abbrev pub invariant-loop-own : goal.invariant-loop-own
invariant-loop-own g l = record {
  preserves : Preserves l.fn.self l.self;
  continues : Continues l.fn.self l.self;
  noted : HasNoFault l.self.faults → Notes g.N.Name.terms (notes_of_all l.at l.reports (take l.own-index l.tickets)) l.fn.self.main l.self.main;
}
