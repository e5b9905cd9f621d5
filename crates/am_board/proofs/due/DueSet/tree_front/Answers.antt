use Rattle.am_board.proofs.lemmas.begin.DueWalk.{front_greatest}
use Rattle.am_board.proofs.due.DueSet.tree_front.Goals as goal

pub returns : goal.returns
returns c = front_greatest c.args.self.now.tree.keys c.last.result c.last.ensures.variant.1 c.last.ensures.greatest
