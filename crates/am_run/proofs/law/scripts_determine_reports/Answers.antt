use Rattle.am_run.proofs.lemmas.sending.Determined.{reports_are_determined}
use Rattle.am_run.proofs.law.scripts_determine_reports.Goals as goal

pub returns : goal.returns
returns c = reports_are_determined
