use Rattle.std.proofs.Common.{◌∙◌, ◌++◌, ◌∷◌, List, length, ap, arith}
use Rattle.std.proofs.lemmas.Iterator.Adapters.{YieldsList-from_vec}
use Rattle.std.proofs.lemmas.Iterator.Consumers.{YieldsList-end}
use Rattle.std.proofs.lemmas.List.{take_all}
use Rattle.am_run.specs.LaneStates.{passes_in}
use Rattle.am_run.specs.declared.lane.LaneState.{LaneState}
use Rattle.am_run.proofs.phase.put_back.Goals as goal

pub returns-clause-passes : goal.returns-clause-passes
returns-clause-passes g c =
    let ls = c.args.lane_states.items in
    let gives = c.into_iter-lane_state-iterator.ensures.into_iter_gives in
    let n = length c.loop-lane_state.yielded in
    let end = YieldsList-end (YieldsList-from_vec {s = c.into_iter-lane_state-iterator.result} ls gives.0 (gives.1 ∙ c.args.lane_states.ok.0)) c.loop-lane_state.yielded c.loop-lane_state.lane_state-iterator c.loop-lane_state.yielded_by c.next.result c.next.new.self c.in-None.is c.next.ensures.steps in
    c.loop-lane_state.invariant ∙ ap (λ (xs : List (LaneState g.row.N.Denot)). c.args.passes.now.items ++ c.args.main ∷ passes_in xs) (take_all n ls (omega (arith, end.1)))
