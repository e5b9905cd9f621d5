-- The state of a lane can be handed to a thread, and the scripts can be shared by the couriers.
use denote.RattleType.{RattleType}
use denote.Param.Send.{IsSend, IsSync}
use Rattle.am_desk.proofs.Crossing.{every, silence_send}
use Rattle.am_desk.proofs.pass.Pass.TheSendSync as pass
use Rattle.am_alerts.proofs.alert.Alert.TheSendSync as alert
use Rattle.am_desk.specs.declared.name.Name as name
use Rattle.am_scenario.specs.contracts.scenario.call.LaneCall as call_row
use Rattle.am_scenario.specs.contracts.scenario.script.Script as script_row
use Rattle.am_run.specs.contracts.lane.LaneState as state_row

pub call_send : IsSend call_row.the_row
call_send = search (every, silence_send, alert.the_send) depth 40 fits 10000

module _ (N : RattleType) (n : name.Ghosts N.Denot) where
  pub state_send : IsSend (state_row.the_row N n)
  state_send = search (every, pass.the_send, call_send) depth 40 fits 10000

pub script_sync : IsSync script_row.the_row
script_sync = search every depth 40 fits 10000
