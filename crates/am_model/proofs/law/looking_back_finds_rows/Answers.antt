use Rattle.am_model.proofs.looking_back.rows.FoundRows.{rows_are_found}
use Rattle.am_model.proofs.looking_back.rows.RowsDelivered.{shown_rows_are_found}
use Rattle.am_model.proofs.law.looking_back_finds_rows.Goals as goal

pub returns-clause-found : goal.returns-clause-found
returns-clause-found c = rows_are_found

pub returns-clause-shown : goal.returns-clause-shown
returns-clause-shown c = shown_rows_are_found
