use Rattle.am_desk.proofs.Delivered.{unloaded_rows}
use Rattle.am_desk.proofs.law.unloaded_rows_were_delivered.Goals as goal

pub returns : goal.returns
returns c = unloaded_rows
