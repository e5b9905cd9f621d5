use Rattle.am_model.proofs.configuration.Carried.{carried_rows_may_be_loaded}
use Rattle.am_model.proofs.legal.LoadableRows.{rows_may_be_loaded, dispatcher_changes_may_be_loaded}
use Rattle.am_model.proofs.law.rows_may_be_loaded.Goals as goal

pub returns-clause-own : goal.returns-clause-own
returns-clause-own c = rows_may_be_loaded

pub returns-clause-carried : goal.returns-clause-carried
returns-clause-carried c = carried_rows_may_be_loaded

pub returns-clause-dispatcher_change : goal.returns-clause-dispatcher_change
returns-clause-dispatcher_change c = dispatcher_changes_may_be_loaded
