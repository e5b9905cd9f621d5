use Rattle.std.proofs.Common.{◌≡◌, ◌++◌, take}
use Rattle.am_ghost.proofs.ghost_list.GhostList.add_all.Given as goal

-- the items so far were added
abbrev pub invariant-loop-item : goal.invariant-loop-item
invariant-loop-item g l = l.self.items ≡ l.fn.self.items ++ take l.item-index l.items
