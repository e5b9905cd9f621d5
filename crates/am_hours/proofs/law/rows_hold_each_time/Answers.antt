use Rattle.am_hours.proofs.Rows.{row-holds}
use Rattle.am_hours.proofs.law.rows_hold_each_time.Goals as goal

pub returns : goal.returns
returns c = row-holds
