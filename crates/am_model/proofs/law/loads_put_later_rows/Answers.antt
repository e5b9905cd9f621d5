use Rattle.am_model.proofs.looking_back.rows.LoadedRows.{loads_put_later_rows}
use Rattle.am_model.proofs.law.loads_put_later_rows.Goals as goal

pub returns : goal.returns
returns c = loads_put_later_rows
