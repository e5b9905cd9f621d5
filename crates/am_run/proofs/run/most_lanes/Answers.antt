use Rattle.std.proofs.Common.{◌≤◌, All, List, subst, arith, vec_len}
use Rattle.std.proofs.lemmas.List.{take_all}
use Rattle.am_scenario.specs.declared.scenario.Phase.{Phase}
use Rattle.am_run.proofs.lemmas.lanes.Lanes.{most_more}
use Rattle.am_run.proofs.run.most_lanes.Goals as goal

pub loop-phase-preserved : goal.loop-phase-preserved
loop-phase-preserved c =
    let i = c.loop-phase.invariant in
    record {
      most = most_more (λ (p : Phase). vec_len p.lanes) c.args.phases.now c.loop-phase.phase-index c.loop-phase.most c.max-most.result c.phase-item.result
          (omega (arith, c.loop-phase-test.true)) c.phase-item.is i.most (omega (arith, c.max-most.ensures)) (omega (arith, c.max-most.ensures, c.len.ensures));
      few = omega (arith, c.max-most.ensures, c.len.ensures, c.phase-item.result.few_lanes);
    }

pub returns-clause-most : goal.returns-clause-most
returns-clause-most c =
    subst (λ (ps : List Phase). All (λ (p : Phase). vec_len p.lanes ≤ c.loop-phase.most) ps) (take_all c.loop-phase.phase-index c.args.phases.now (omega (arith, c.loop-phase-test.false))) c.loop-phase.invariant.most
