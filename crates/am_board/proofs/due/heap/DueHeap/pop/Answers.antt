use Rattle.std.proofs.Common.{List, slice_get, ap, ◌∙◌}
use Rattle.std.specs.BinaryHeap.{heap_items}
use Rattle.am_board.specs.DueOrder.{has_key}
use Rattle.am_board.specs.declared.due.DueKey.{DueKey}
use Rattle.am_board.proofs.lemmas.invariant.DueHeaps.{popped_is, popped_keeps}
use Rattle.am_board.proofs.due.heap.DueHeap.pop.Goals as goal

pub returns-clause-key : goal.returns-clause-key
returns-clause-key c key at =
    popped_is c.pop.result (heap_items c.self.inside.keys) key (ap (λ (ks : List DueKey). slice_get ks 0) c.self.view_is ∙ at) c.pop.ensures.top

pub returns-clause-others : goal.returns-clause-others
returns-clause-others c key other at apart =
    popped_keeps _ c.pop.result (heap_items c.self.inside.keys) (heap_items c.pop.new.self) key other (ap (λ (ks : List DueKey). slice_get ks 0) c.self.view_is ∙ at)
    c.pop.ensures.top c.pop.ensures.permutation c.pop.ensures.unchanged apart
    ∙ ap (λ (ks : List DueKey). has_key ks other) c.self.view_is
