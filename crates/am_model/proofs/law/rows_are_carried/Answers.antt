use Rattle.am_model.proofs.configuration.Carried.{carried_rows_fit, restarts_carry_rows}
use Rattle.am_model.proofs.legal.LedRows.{rows_are_led, restarts_keep_rows}
use Rattle.am_model.proofs.law.rows_are_carried.Goals as goal

pub returns-clause-fit : goal.returns-clause-fit
returns-clause-fit c = carried_rows_fit

pub returns-clause-restart : goal.returns-clause-restart
returns-clause-restart c = restarts_carry_rows

pub returns-clause-led : goal.returns-clause-led
returns-clause-led c = rows_are_led

pub returns-clause-kept : goal.returns-clause-kept
returns-clause-kept c = restarts_keep_rows
