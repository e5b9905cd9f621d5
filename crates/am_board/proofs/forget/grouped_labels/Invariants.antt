use Rattle.std.proofs.Common.{map, take}
use Rattle.am_board.specs.Forgetting.{AreGrouped}
use Rattle.am_board.specs.Refinement.{group_state}
use Rattle.am_board.proofs.forget.grouped_labels.Given as goal

-- the label sets of the groups so far
abbrev pub invariant-loop-group : goal.invariant-loop-group
invariant-loop-group l = AreGrouped l.sets.keys (map group_state (take l.group-index l.groups))
