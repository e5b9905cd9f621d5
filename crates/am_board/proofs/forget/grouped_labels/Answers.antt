use Rattle.std.proofs.Common.{◌≡◌, ◌∙◌, ◌++◌, ◌∷◌, [], ◌+◌, List, map, take, sym, ap, subst, arith}
use Rattle.std.proofs.lemmas.List.{map-append, take_more}
use Rattle.am_alerts.specs.declared.labels.Label.{Label}
use Rattle.am_model.specs.State.{GroupState}
use Rattle.am_board.specs.Forgetting.{AreGrouped, AddsLabelsOf}
use Rattle.am_board.specs.Refinement.{group_state, member_state}
use Rattle.am_board.specs.declared.group.Group.{Group}
use Rattle.am_board.specs.declared.group.Member.{Member}
use Rattle.am_board.proofs.lemmas.forget.Grouped.{grouped_more}
use Rattle.am_board.proofs.forget.grouped_labels.Goals as goal

pub loop-group-preserved : goal.loop-group-preserved
loop-group-preserved c =
    let g : Group = c.group-item.result in
    let i = c.loop-group.group-index in
    let before : List (List Label) = c.loop-group.sets.keys in
    let after : List (List Label) = c.add_labels.new.sets.keys in
    let seen : List Group = take i c.args.groups.now in
    let more : take (i + 1) c.args.groups.now ≡ seen ++ g ∷ [] = take_more c.args.groups.now i g (omega arith) ∙ ap (λ x. seen ++ x ∷ []) (sym c.group-item.is) in
    let mapped : map group_state (take (i + 1) c.args.groups.now) ≡ map group_state seen ++ group_state g ∷ [] = ap (map group_state) more ∙ map-append group_state seen (g ∷ []) in
    let added : AddsLabelsOf (map member_state g.members.items) before after = subst (λ (ms : List Member). AddsLabelsOf (map member_state ms) before after) c.as_slice.ensures.value c.in_ok-add_labels.ensures in
    subst (λ (gs : List GroupState). AreGrouped after gs) (sym mapped) (grouped_more (map group_state seen) (group_state g) before after c.loop-group.invariant added)
