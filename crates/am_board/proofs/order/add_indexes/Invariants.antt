use Rattle.std.specs.Prelude.{IsPermutation}
use Rattle.std.specs.List.{range_with_len}
use Rattle.am_board.proofs.order.add_indexes.Given as goal

-- each of the indexes so far is there
abbrev pub invariant-loop-index : goal.invariant-loop-index
invariant-loop-index l = IsPermutation (range_with_len 0 l.index) l.indexes.items
