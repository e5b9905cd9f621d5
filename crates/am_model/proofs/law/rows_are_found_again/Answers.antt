use Rattle.am_model.proofs.configuration.Rekeyed.{rekeyed_rows_fit, rekeyed_rows_may_be_loaded, restarts_find_rows}
use Rattle.am_model.proofs.legal.FoundRows.{rekeyed_dispatcher_changes_may_be_loaded, restarts_find_shown_rows}
use Rattle.am_model.proofs.law.rows_are_found_again.Goals as goal

pub returns-clause-fit : goal.returns-clause-fit
returns-clause-fit c = rekeyed_rows_fit

pub returns-clause-load : goal.returns-clause-load
returns-clause-load c = rekeyed_rows_may_be_loaded

pub returns-clause-dispatcher_change : goal.returns-clause-dispatcher_change
returns-clause-dispatcher_change c = rekeyed_dispatcher_changes_may_be_loaded

pub returns-clause-restart : goal.returns-clause-restart
returns-clause-restart c = restarts_find_rows

pub returns-clause-kept : goal.returns-clause-kept
returns-clause-kept c = restarts_find_shown_rows
