use Rattle.std.proofs.Common.{◌≡◌, map, take}
use Rattle.am_board.specs.Refinement.{group_state}
use Rattle.am_model.specs.Views.{group_view}
use Rattle.am_board.proofs.views.views_of.Given as goal

-- the views of the groups so far
abbrev pub invariant-loop-group : goal.invariant-loop-group
invariant-loop-group l = l.views.items ≡ map (λ g. group_view (group_state g)) (take l.group-index l.groups)
