use Rattle.am_model.proofs.looking_back.alerts.Refiring.{refiring_alerts_stay}
use Rattle.am_model.proofs.law.refiring_alerts_stay.Goals as goal

pub returns : goal.returns
returns c = refiring_alerts_stay
