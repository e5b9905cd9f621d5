use Rattle.std.proofs.Common.{take}
use Rattle.am_board.specs.Walk.{AreSeen}
use Rattle.am_board.proofs.walk.walk_indexes.Given as goal

-- what is found at the indexes so far
abbrev pub invariant-loop-index : goal.invariant-loop-index
invariant-loop-index l = AreSeen l.look l.members (take l.index-index l.indexes) l.walk
