use Rattle.std.proofs.Common.{Result, sym, ap}
use Rattle.am_model.specs.declared.fault.Fault.{Fault}
use Rattle.am_board.specs.Beginning.{with_preview}
use Rattle.am_board.specs.declared.begin.Begun.{Begun}
use Rattle.am_board.proofs.begin.with_preview.Goals as goal

pub returns-in-Ok : goal.returns-in-Ok
returns-in-Ok c = ap (λ (r : Result Begun Fault). with_preview r c.args.preview) (sym c.in-Ok.is)

pub returns-in-Err : goal.returns-in-Err
returns-in-Err c = ap (λ (r : Result Begun Fault). with_preview r c.args.preview) (sym c.in-Err.is)
