use Rattle.std.proofs.Common.{List, ap, ◌∙◌}
use Rattle.std.specs.BinaryHeap.{heap_items}
use Rattle.am_board.specs.DueOrder.{has_key}
use Rattle.am_board.specs.declared.due.DueKey.{DueKey}
use Rattle.std.proofs.lemmas.Result.{on_ok_weaker}
use Rattle.am_board.proofs.lemmas.invariant.DueHeaps.{pushed_has, pushed_keeps}
use Rattle.am_board.proofs.due.heap.DueHeap.push.Goals as goal

pub returns-clause-has : goal.returns-clause-has
returns-clause-has c =
    on_ok_weaker c.push.result (pushed_has (heap_items c.self.inside.keys) (heap_items c.push.new.self) c.args.key) c.push.ensures.permutation

pub returns-clause-keeps : goal.returns-clause-keeps
returns-clause-keeps c =
    on_ok_weaker c.push.result
    (λ same other had. pushed_keeps (heap_items c.self.inside.keys) (heap_items c.push.new.self) c.args.key same other (ap (λ (ks : List DueKey). has_key ks other) c.self.view_is ∙ had))
    c.push.ensures.permutation
