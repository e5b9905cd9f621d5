use Rattle.std.proofs.Common.{Option, Result, subst, false}
use Rattle.am_model.specs.declared.fault.Fault.{Fault}
use Rattle.am_model.specs.declared.preview.Preview.{Preview}
use Rattle.am_board.specs.Beginning.{BeginsShown}
use Rattle.am_board.specs.declared.begin.Begun.{Begun}
use Rattle.am_board.proofs.begin.take_group.Goals as goal

pub returns-in-Ok : goal.returns-in-Ok
returns-in-Ok c =
    let all = subst (λ (r : Result (Begun × Option Preview) Fault). BeginsShown c.args.config.now c.args.call false c.args.state.now c.take.new.state r) c.in-Ok.is c.take.ensures in
    (all.0, all.1, all.2.0)

pub returns : goal.returns
returns c = subst (λ (r : Result (Begun × Option Preview) Fault). BeginsShown c.args.config.now c.args.call false c.args.state.now c.take.new.state r) c.in-Err.is c.take.ensures
