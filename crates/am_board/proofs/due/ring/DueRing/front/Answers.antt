use Rattle.std.proofs.Common.{List, subst}
use Rattle.am_board.specs.DueOrder.{IsFront}
use Rattle.am_board.specs.declared.due.DueKey.{DueKey}
use Rattle.am_board.proofs.lemmas.begin.DueWalk.{front_rising}
use Rattle.am_board.proofs.due.ring.DueRing.front.Goals as goal

pub returns : goal.returns
returns c =
    subst (λ (ks : List DueKey). IsFront ks c.front.result) c.self.view_is
    (front_rising c.self.inside.keys.items c.front.result c.self.invariant c.front.ensures.item)
