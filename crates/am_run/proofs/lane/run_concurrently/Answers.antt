use Rattle.std.proofs.Common.{◌≡◌, ◌∙◌, [], ◌++◌, List, length, map, vec_len, refl, sym, ap, subst, arith}
use Rattle.std.proofs.lemmas.Bool.{eqb-true}
use Rattle.std.proofs.lemmas.List.{length-map, nil_from_length, take_all}
use Rattle.am_run.specs.LaneStates.{AfterLanes}
use Rattle.am_run.specs.declared.lane.LaneState.{LaneState}
use Rattle.am_scenario.specs.declared.scenario.Lane.{Lane}
use Rattle.am_desk.specs.Known.{Seen}
use Rattle.am_run.proofs.lemmas.lanes.LaneStates.{after_lanes}
use Rattle.am_run.proofs.lane.run_concurrently.Goals as goal

pub returns-then-is_empty-clause-lanes : goal.returns-then-is_empty-clause-lanes
returns-then-is_empty-clause-lanes g c =
    let ss = c.args.lane_states.now in
    let zero : vec_len c.args.lanes ≡ 0 = eqb-true (vec_len c.args.lanes) 0 (sym c.is_empty.ensures ∙ c.if-is_empty.true) in
    let nil : c.args.lanes.items ≡ [] = nil_from_length c.args.lanes.items (omega (arith, zero, c.args.lanes.ok.0)) in
    subst (λ (xs : List Lane). AfterLanes g.N.Name.terms c.args.at xs ss ss) (sym nil) refl

pub returns-clause-lanes : goal.returns-clause-lanes
returns-clause-lanes g c =
    let split = c.split_at_mut-taken in
    let front : List (LaneState g.row.N.Denot) = split.result.0.now in
    let back : List (LaneState g.row.N.Denot) = split.result.1.now in
    let taken : List (LaneState g.row.N.Denot) = c.take_lane_states.new.lane_states in
    let ran : List (LaneState g.row.N.Denot) = c.share.new.lane_states in
    let ls = c.args.lanes.items in
    let long : length taken ≡ length front =
    sym (length-map taken (λ (s : LaneState g.row.N.Denot). s.pass)) ∙ (ap (λ (ps : List Seen). length ps) c.take_lane_states.ensures.passes ∙ length-map front (λ (s : LaneState g.row.N.Denot). s.pass))
    in
    let calls = ap (map (λ (s : LaneState g.row.N.Denot). s.calls)) (sym (take_all _ taken (omega (arith, long, split.ensures.front_len, c.len.ensures)))) ∙ c.take_lane_states.ensures.calls in
    subst (λ (ss : List (LaneState g.row.N.Denot)). AfterLanes g.N.Name.terms c.args.at ls ss (ran ++ back)) (sym split.ensures.value)
    (after_lanes g.N.Name.terms c.args.at ls front taken ran back c.take_lane_states.ensures.passes calls c.share.ensures.lanes)
