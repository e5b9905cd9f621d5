use Rattle.std.proofs.Common.{◌≤◌, All, take, vec_len}
use Rattle.am_scenario.specs.declared.scenario.Phase.{Phase}
use Rattle.am_scenario.specs.declared.scenario.TheConstants.{MAX_LANES}
use Rattle.am_run.proofs.run.most_lanes.Given as goal

abbrev pub invariant-loop-phase : goal.invariant-loop-phase
invariant-loop-phase l = record {
  most : All (λ (p : Phase). vec_len p.lanes ≤ l.most) (take l.phase-index l.phases);
  few : l.most ≤ MAX_LANES;
}
