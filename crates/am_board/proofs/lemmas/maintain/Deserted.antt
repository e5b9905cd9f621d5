-- A group without alerts has no open flush.
use Rattle.std.proofs.Common.{◌≡◌, true, false, true≢false, not, ◌||◌, Some, List, [], ◌∷◌, map, get_or, find, refl, sym, ap, ◌∙◌, arith}
use Rattle.std.specs.Prelude.{All}
use Rattle.std.specs.List.{AllByRecursion}
use Rattle.std.specs.Option.{option_map, unwrap_or}
use Rattle.std.proofs.lemmas.List.{get_or-map, length-map}
use Rattle.am_nflog.specs.Members.{is_empty}
use Rattle.am_model.specs.Insert.{same_group}
use Rattle.am_model.specs.Laws.{IsHeld}
use Rattle.am_model.specs.State.{GroupState, FlushState, is_flushing, is_named, members_in, same_name}
use Rattle.am_model.specs.Maintenance.{has_no_alerts}
use Rattle.am_model.specs.declared.config.Config.{Config}
use Rattle.am_model.specs.declared.group.GroupName.{GroupName}
use Rattle.am_model.proofs.lists.Alone.{IsAlone, alone-distinct, find-alone}
use Rattle.am_model.proofs.lists.Distinct.{all_to}
use Rattle.am_model.proofs.states.Alike.{same_group_equiv, same_name_equiv}
use Rattle.am_board.specs.Refinement.{flush_state, group_state, state_of}
use Rattle.am_board.specs.Step.{StateInvariant}
use Rattle.am_board.specs.declared.group.Group.{Group}
use Rattle.am_board.specs.declared.state.State as kept
use Rattle.am_board.proofs.lemmas.insert.Found.{names_apart}
use Rattle.am_board.proofs.lemmas.invariant.Marks.{not_both, have_open_flags}

-- an open flush is of the name
of_name : (n : GroupName) (fs : List FlushState) → is_flushing fs n ≡ true → (P : FlushState → Type 0) → AllByRecursion P fs → (f : FlushState) × (P f × (same_name n f.group ≡ true))
of_name n [] h P all = absurd (true≢false (sym h))
of_name n (f ∷ fs) h P all =
    elim (same_name n f.group) as (λ b. same_name n f.group ≡ b → (b || is_flushing fs n) ≡ true → (f : FlushState) × (P f × (same_name n f.group ≡ true))) [
      | true ↦ λ e there. (f, (all.0, e))
      | false ↦ λ e there. of_name n fs there P all.1
    ] refl h

pub deserted_closed : (config : Config) (s : kept.State) → StateInvariant config s → AllByRecursion (λ g. has_no_alerts (group_state g) ≡ true → g.is_open ≡ false) s.groups.items
deserted_closed config s good = all_to (λ (g : Group). has_no_alerts (group_state g) ≡ true → g.is_open ≡ false) s.groups.items closed
  where
    closed : All (λ (g : Group). has_no_alerts (group_state g) ≡ true → g.is_open ≡ false) s.groups.items
    closed j d within gone =
        let gs : List Group = s.groups.items in
        let fs : List FlushState = map flush_state s.flushes.items in
        let states : List GroupState = map group_state gs in
        let g : Group = get_or gs j d in
        not_both g.is_open
        (λ open_now.
        let flushing : is_flushing fs g.name ≡ true = sym (have_open_flags fs gs (names_apart gs good.consistent.groups) good.marked j d within) ∙ open_now in
        let one = of_name g.name fs flushing (IsHeld (state_of s)) (all_to (IsHeld (state_of s)) fs good.consistent.held) in
        let f : FlushState = one.0 in
        let there : get_or states j (group_state g) ≡ group_state g = get_or-map group_state gs j d (group_state g) within in
        let like : (y : GroupState) → is_named f.group y ≡ same_group (get_or states j (group_state g)) y =
        λ y. same_name_equiv.congr f.group g.name y.name (same_name_equiv.symm f.group g.name ∙ one.1.1) ∙ ap (λ (x : GroupState). same_name x.name y.name) (sym there) in
        let alone : IsAlone (is_named f.group) states j = alone-distinct same_group same_group_equiv (is_named f.group) states j (group_state g) (omega (arith, within, length-map gs group_state)) good.consistent.groups like in
        let found : find (is_named f.group) states ≡ Some (group_state g) = find-alone (is_named f.group) states j (group_state g) alone ∙ ap (λ x. Some x) there in
        let members : members_in states f.group ≡ (group_state g).members = ap (λ o. unwrap_or (option_map (λ (x : GroupState). x.members) o) []) found in
        true≢false (sym one.1.0.alive ∙ ap not (ap is_empty members ∙ gone)))
