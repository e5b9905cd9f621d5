use Rattle.am_model.proofs.looking_back.rows.RowsDelivered.{only_delivered_is_logged, rows_come_by_delivery, rows_were_delivered}
use Rattle.am_model.proofs.law.logged_only_after_delivery.Goals as goal

pub returns-clause-each_record : goal.returns-clause-each_record
returns-clause-each_record c = only_delivered_is_logged

pub returns-clause-new_rows : goal.returns-clause-new_rows
returns-clause-new_rows c = rows_come_by_delivery

pub returns-clause-rows : goal.returns-clause-rows
returns-clause-rows c = rows_were_delivered
