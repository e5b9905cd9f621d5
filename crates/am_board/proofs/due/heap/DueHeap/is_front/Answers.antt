use Rattle.std.proofs.Common.{List, slice_get, sym, ap, ◌∙◌}
use Rattle.std.specs.BinaryHeap.{heap_items}
use Rattle.am_board.specs.declared.due.DueKey.{DueKey}
use Rattle.am_board.proofs.lemmas.invariant.DueRings.{key_is_there}
use Rattle.am_board.proofs.due.heap.DueHeap.is_front.Goals as goal

pub returns-then-key-due : goal.returns-then-key-due
returns-then-key-due c same =
    ap (λ (ks : List DueKey). slice_get ks 0) (sym c.self.view_is)
    ∙ key_is_there (heap_items c.self.inside.keys) 0 c.in-Some.key.now c.args.name.now c.args.due c.in-Some.ensures.item.3.0 c.in-Some.ensures.lookup
    c.if-key-due.true (sym c.eq.ensures ∙ same)
