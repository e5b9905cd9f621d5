use Rattle.am_model.proofs.looking_back.alerts.AlertsShown.{shown_alerts_are_found}
use Rattle.am_model.proofs.looking_back.alerts.FoundAlerts.{alerts_are_found}
use Rattle.am_model.proofs.law.looking_back_finds_alerts.Goals as goal

pub returns-clause-found : goal.returns-clause-found
returns-clause-found c = alerts_are_found

pub returns-clause-shown : goal.returns-clause-shown
returns-clause-shown c = shown_alerts_are_found
