use Rattle.am_model.proofs.looking_back.reasons.WhomNeeded.{notices_list_present_alerts}
use Rattle.am_model.proofs.law.notices_list_present_alerts.Goals as goal

pub returns : goal.returns
returns c = notices_list_present_alerts
