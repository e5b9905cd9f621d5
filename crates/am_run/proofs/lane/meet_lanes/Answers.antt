use Rattle.std.proofs.Common.{◌<◌, ◌∙◌, length, length-set, refl, subst, sym, arith}
use Rattle.std.proofs.Math.Seq.{map-set_same}
use Rattle.std.proofs.lemmas.List.{length-map}
use Rattle.am_run.specs.Interleaving.{Meets}
use Rattle.am_run.specs.LaneStates.{passes_in}
use Rattle.am_run.specs.declared.lane.LaneState.{LaneState}
use Rattle.am_run.proofs.lemmas.lanes.Meetings.{all_met, none_met, seat_met}
use Rattle.am_run.proofs.lane.meet_lanes.Goals as goal

pub loop-lane_state-init : goal.loop-lane_state-init
loop-lane_state-init g c = record { count = refl; met = none_met _ _; refused = refl }

pub loop-lane_state-preserved : goal.loop-lane_state-preserved
loop-lane_state-preserved g c =
    let i = c.loop-lane_state.invariant in
    let f = λ (s : LaneState g.row.N.Denot). s.pass in
    let ss = c.loop-lane_state.lane_states in
    let k = c.loop-lane_state.lane_state-index in
    let within : k < length ss = omega (arith, c.loop-lane_state-test.true) in
    record {
      count = length-set ss k c.meet.new.self ∙ i.count;
      met =
          seat_met f k c.args.main.now c.loop-lane_state.main c.meet.new.other (passes_in c.args.lane_states.now) ss c.lane_state-item.result c.meet.new.self
          (omega (arith, within, i.count, length-map c.args.lane_states.now f)) within c.lane_state-item.is i.met c.meet.ensures.met.0
          (subst (λ (x : LaneState g.row.N.Denot). Meets c.loop-lane_state.main c.meet.new.other x.pass c.meet.new.self.pass) (sym c.lane_state-item.is) c.meet.ensures.met.1);
      refused = map-set_same (λ (s : LaneState g.row.N.Denot). s.refused) ss k c.meet.new.self c.lane_state-item.result (c.meet.ensures.refused) ∙ i.refused;
    }

pub returns-clause-met : goal.returns-clause-met
returns-clause-met g c =
    let f = λ (s : LaneState g.row.N.Denot). s.pass in
    all_met c.loop-lane_state.lane_state-index _ _ _ _
    (omega (arith, c.loop-lane_state-test.false, c.loop-lane_state.invariant.count, length-map c.args.lane_states.now f))
    (omega (arith, c.loop-lane_state-test.false, length-map c.loop-lane_state.lane_states f)) c.loop-lane_state.invariant.met
