use Rattle.am_run.proofs.FirstRun.{first_is_legal, first_run_is}
use Rattle.am_run.proofs.law.first_run_report_is.Goals as goal

pub returns-clause-legal : goal.returns-clause-legal
returns-clause-legal c = first_is_legal

pub returns-clause-report : goal.returns-clause-report
returns-clause-report c = first_run_is
