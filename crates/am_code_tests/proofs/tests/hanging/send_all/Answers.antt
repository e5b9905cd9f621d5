use denote.Param.Send.{IsSync}
use Rattle.am_desk.proofs.Crossing.{crossing}
use Rattle.am_desk.proofs.pass.Pass.TheSendSync as pass
use Rattle.am_desk.proofs.own_ticket.OwnTicket.TheSendSync as own
use Rattle.am_code_tests.proofs.tests.hanging.send_all.Goals as goal

pub for_each_mut-requires-send-T : goal.for_each_mut-requires-send-T
for_each_mut-requires-send-T g c κs within =
    search (crossing, own.the_send) depth 60 fits 10000

pub for_each_mut-requires-sync-F : goal.for_each_mut-requires-sync-F
for_each_mut-requires-sync-F g c κs within =
    let sync_r : IsSync g.row.R = record { shared = c.type_bounds.sync-R.shared } in
    search (crossing, pass.the_send) depth 60 fits 10000
