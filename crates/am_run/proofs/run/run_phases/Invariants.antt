use Rattle.std.proofs.Common.{length, take}
use Rattle.am_run.specs.Runs.{HasRun, IsWell}
use Rattle.am_run.proofs.run.run_phases.Given as goal

-- the run has run the phases so far, and nothing has gone wrong
abbrev pub invariant-loop-index : goal.invariant-loop-index
invariant-loop-index g l = record {
  ran : HasRun g.C.Answering.answers g.N.Name.terms (take (length l.yielded) l.fn.phases.items) l.run;
  well : IsWell l.run;
}
