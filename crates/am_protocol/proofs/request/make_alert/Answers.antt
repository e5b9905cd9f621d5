use Rattle.am_alerts.specs.AlertData.{alert_fault, alert_of}
use Rattle.am_json.proofs.Made.{unmade}
use Rattle.am_protocol.proofs.request.make_alert.Goals as goal

pub returns-in-Err-clause-refused : goal.returns-in-Err-clause-refused
returns-in-Err-clause-refused c =
    let alert = alert_of c.args.labels c.args.starts c.args.ends in
    unmade (alert_fault alert) alert c.in-Err.fault c.in-Err.ensures
