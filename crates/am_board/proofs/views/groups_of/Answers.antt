use Rattle.std.proofs.Common.{◌≡◌, rules, map, ap, ◌∙◌}
use Rattle.am_board.specs.declared.group.Group.{Group}
use Rattle.am_board.specs.Refinement.{group_state}
use Rattle.am_model.specs.Views.{group_view}
use Rattle.am_model.proofs.states.InOrder.{sorted_by_group}
use Rattle.am_board.proofs.lemmas.invariant.Shown.{views_kept}
use Rattle.am_board.proofs.views.groups_of.Goals as goal

pub returns : goal.returns
returns c =
    let groups = c.args.state.now.groups.items in
    let views : c.in_ok-groups.groups.items ≡ map group_view (map group_state groups) =
    c.in_ok-groups.ensures ∙ ap (map (λ (g : Group). group_view (group_state g))) c.as_slice.ensures.value ∙ views_kept groups in
    sorted_by_group (map group_state groups) c.in_ok-groups.groups.items c.sort_unstable_by.new.self.items views c.sort_unstable_by.ensures.permutation c.sort_unstable_by.ensures.sorted (λ a r f' k. search rules) c.requires.groups
