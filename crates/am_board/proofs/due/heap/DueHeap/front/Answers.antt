use Rattle.std.proofs.Common.{List, subst}
use Rattle.std.specs.BinaryHeap.{heap_items}
use Rattle.am_board.specs.DueOrder.{IsFront}
use Rattle.am_board.specs.declared.due.DueKey.{DueKey}
use Rattle.am_board.proofs.lemmas.begin.DueWalk.{front_among}
use Rattle.am_board.proofs.due.heap.DueHeap.front.Goals as goal

pub returns : goal.returns
returns c =
    subst (λ (ks : List DueKey). IsFront ks c.peek.result) c.self.view_is
    (front_among (heap_items c.self.inside.keys) c.peek.result c.self.invariant c.peek.ensures.item c.peek.ensures.greatest)
