use Rattle.am_board.proofs.lemmas.invariant.Order.{one_added}
use Rattle.am_board.proofs.order.add_indexes.Goals as goal

pub loop-index-preserved : goal.loop-index-preserved
loop-index-preserved c = one_added c.loop-index.index _ _ c.loop-index.invariant c.in_ok-push.ensures.items
