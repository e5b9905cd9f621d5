use Rattle.std.proofs.Common.{◌≡◌, ◌<◌, ℕ, map, get_or}
use Rattle.am_board.specs.Group.{names_of, HasSpace}
use Rattle.am_board.specs.Refinement.{group_state}
use Rattle.am_board.specs.declared.insert.Placement.{Placement}
use Rattle.am_board.proofs.insert.reserve_all.Given as goal
use Rattle.am_board.specs.Marks.{marks_of}

-- no name changes, and the groups of the placements so far have the capacity
abbrev pub invariant-loop-placement : goal.invariant-loop-placement
invariant-loop-placement l = record {
  names : names_of l.groups.items ≡ names_of l.fn.groups.items;
  marks : marks_of l.groups.items ≡ marks_of l.fn.groups.items;
  states : map group_state l.groups.items ≡ map group_state l.fn.groups.items;
  spare : l.groups.space ≡ l.fn.groups.space;
  space : (k : ℕ) (d : Placement) → k < l.placement-index → HasSpace 1 (get_or l.placements k d).name l.groups.items;
}
