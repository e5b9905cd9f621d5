use Rattle.std.proofs.Common.{sym, subst}
use Rattle.am_board.specs.Order.{AreIndexes}
use Rattle.am_board.proofs.lemmas.invariant.Order.{all_sorted, none_there}
use Rattle.am_board.proofs.order.renew.Goals as goal

pub returns-in-Ok : goal.returns-in-Ok
returns-in-Ok c = all_sorted c.args.members.now c.complete.new.indexes.items c.in-Ok.ensures.sorted c.in-Ok.ensures.all

pub returns-in-Err : goal.returns-in-Err
returns-in-Err c = subst (λ ps. AreIndexes ps c.args.members.now) (sym c.forget.ensures) (none_there c.args.members.now)
