use denote.Param.Send.{IsSync}
use Rattle.am_desk.proofs.Crossing.{every, desk_sync}
use Rattle.am_run.proofs.lemmas.lanes.Crossing.{state_send}
use Rattle.am_run.proofs.lane.share.Goals as goal

pub join_mut-reports-requires-send-F : goal.join_mut-reports-requires-send-F
join_mut-reports-requires-send-F g c κs within =
    let sync_r : IsSync g.row.R = record { shared = c.type_bounds.sync-R.shared } in
    search (every, desk_sync, state_send) depth 40 fits 10000
