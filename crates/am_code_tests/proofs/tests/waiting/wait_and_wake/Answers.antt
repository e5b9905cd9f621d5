use denote.Param.Send.{IsSync}
use Rattle.am_desk.proofs.Crossing.{crossing}
use Rattle.am_desk.proofs.pass.Pass.TheSendSync as pass
use Rattle.am_code_tests.proofs.tests.waiting.wait_and_wake.Goals as goal

pub join-requires-send-F : goal.join-requires-send-F
join-requires-send-F g c κs within =
    let sync_r : IsSync g.row.R = record { shared = c.type_bounds.sync-R.shared } in
    search (crossing, pass.the_send) depth 60 fits 10000
