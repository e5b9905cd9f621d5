use Rattle.std.proofs.Common.{get_or, subst}
use Rattle.am_run.specs.LaneStates.{Ran}
use Rattle.am_run.specs.declared.lane.LaneState.{LaneState}
use Rattle.am_run.proofs.lemmas.lanes.LaneStates.{by_index}
use denote.Param.Send.{IsSync}
use Rattle.am_desk.proofs.Crossing.{every, desk_sync}
use Rattle.am_run.proofs.lemmas.lanes.Crossing.{state_send}
use Rattle.am_run.proofs.lane.run_lanes.Goals as goal

pub for_each_mut-requires-send-T : goal.for_each_mut-requires-send-T
for_each_mut-requires-send-T g c κs within =
    search (every, state_send) depth 40 fits 10000

pub for_each_mut-requires-sync-F : goal.for_each_mut-requires-sync-F
for_each_mut-requires-sync-F g c κs within =
    let sync_r : IsSync g.row.R = record { shared = c.type_bounds.sync-R.shared } in
    search (every, desk_sync) depth 40 fits 10000

pub returns : goal.returns
returns g c =
    let ss = c.args.lane_states.now in
    let ts = c.for_each_mut.new.s in
    let R = λ (x y : LaneState g.row.N.Denot). Ran g.N.Name.terms c.args.at x.calls.items x.pass y in
    by_index R ss ts c.for_each_mut.auto.s
    (λ i d lt.
    let k = (c.for_each_mut.ensures i d lt).1 in
    subst (λ (x : LaneState g.row.N.Denot). R x (get_or ts i d)) k.argument_is (subst (λ (y : LaneState g.row.N.Denot). R k.argument.now y) k.left k.call))
