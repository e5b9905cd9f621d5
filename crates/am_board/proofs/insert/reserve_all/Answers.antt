use Rattle.std.proofs.Common.{◌≡◌, ◌≢◌, ◌∙◌, ◌<◌, ℕ, List, eqb, true, false, eqb-true, length, get_or, refl, sym, ap, subst, arith}
use Rattle.std.proofs.lemmas.Bool.{eqb-false}
use Rattle.std.proofs.lemmas.List.{get_or_default}
use Rattle.am_board.specs.declared.group.Group.{Group}
use Rattle.am_board.specs.declared.insert.Placement.{Placement}
use Rattle.std.specs.List.{IsDistinct}
use Rattle.am_board.specs.Group.{names_of, HasSpace}
use Rattle.am_board.specs.Inserting.{index_in, AreFound}
use Rattle.am_board.proofs.lemmas.insert.Found.{still_found, found_within}
use Rattle.am_model.specs.State.{same_name}
use Rattle.am_board.proofs.insert.reserve_all.Goals as goal

pub reserve_found-requires-clause-distinct : goal.reserve_found-requires-clause-distinct
reserve_found-requires-clause-distinct c = subst (IsDistinct same_name) (sym c.loop-placement.invariant.names) c.requires.distinct

-- the index of the placement at hand is that of its name, by the groups as they are now
at_hand : (ps : List Placement) (gs now : List Group) (i : ℕ) (p : Placement) → names_of now ≡ names_of gs → AreFound gs ps → i < length ps → p ≡ get_or ps i p → p.index ≡ index_in p.name now
at_hand ps gs now i p names found within is =
    subst (λ (q : Placement). q.index ≡ index_in q.name now) (sym is) (still_found ps gs now names found i p within)

pub reserve_found-requires-clause-within : goal.reserve_found-requires-clause-within
reserve_found-requires-clause-within c =
    found_within c.placement-item.result.index c.placement-item.result.name c.loop-placement.groups.items
    (at_hand c.args.placements.now c.args.groups.now.items c.loop-placement.groups.items c.loop-placement.placement-index c.placement-item.result c.loop-placement.invariant.names c.requires.found (omega arith) c.placement-item.is)

pub loop-placement-preserved : goal.loop-placement-preserved
loop-placement-preserved c =
    let new : List Group = c.reserve_found.new.self.items in
    record {
      names = c.in_ok-reserve_found.ensures.names ∙ c.loop-placement.invariant.names;
      marks = c.in_ok-reserve_found.ensures.marks ∙ c.loop-placement.invariant.marks;
      states = c.in_ok-reserve_found.ensures.states ∙ c.loop-placement.invariant.states;
      spare = c.in_ok-reserve_found.ensures.spare ∙ c.loop-placement.invariant.spare;
      space = λ k d less.
          elim (eqb k c.loop-placement.placement-index) as (λ b. eqb k c.loop-placement.placement-index ≡ b → HasSpace 1 (get_or c.args.placements.now k d).name new) [
            | true ↦ λ e.
                let at : c.placement-item.result.name ≡ (get_or c.args.placements.now k d).name =
                ap (λ (p : Placement). p.name) c.placement-item.is ∙ ap (λ (p : Placement). p.name) (get_or_default c.args.placements.now c.loop-placement.placement-index c.placement-item.result d (omega arith)) ∙ ap (λ j. (get_or c.args.placements.now j d).name) (sym (eqb-true k c.loop-placement.placement-index e)) in
                let found = at_hand c.args.placements.now c.args.groups.now.items c.loop-placement.groups.items c.loop-placement.placement-index c.placement-item.result c.loop-placement.invariant.names c.requires.found (omega arith) c.placement-item.is in
                subst (λ n. HasSpace 1 n new) at (c.in_ok-reserve_found.ensures.space c.placement-item.result.name found)
            | false ↦ λ e.
                let apart : k ≢ c.loop-placement.placement-index = eqb-false k c.loop-placement.placement-index e in
                let before = c.loop-placement.invariant.space k d (omega arith) in
                c.in_ok-reserve_found.ensures.others 1 (get_or c.args.placements.now k d).name before
          ] refl;
    }
