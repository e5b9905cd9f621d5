-- The group that has a key, by the index of its name.
use Rattle.std.proofs.Common.{◌≡◌, ℕ, ◌<◌, true, true≢false, Some, None, List, length, get_or, sym, ap, ◌∙◌}
use Rattle.std.specs.List.{position, IsDistinct}
use Rattle.std.proofs.lemmas.List.{get_or_default}
use Rattle.std.proofs.lemmas.List.Quantifiers.{position-Some}
use Rattle.am_model.specs.State.{same_name}
use Rattle.am_model.proofs.lists.Alone.{find-no_position, none-find}
use Rattle.am_model.proofs.states.Alike.{same_name_equiv}
use Rattle.am_board.specs.Due.{key_of, IsCurrent}
use Rattle.am_board.specs.Group.{names_of}
use Rattle.am_board.specs.declared.due.DueKey.{DueKey}
use Rattle.am_board.specs.declared.group.Group.{Group}
use Rattle.am_board.proofs.lemmas.insert.GroupSpace.{named_at}
use Rattle.am_board.proofs.lemmas.invariant.DueKeys.{fails_at, only_index}

module _ (gs : List Group) (key : DueKey) where
  -- the group of a key has its name
  named_as : (g : Group) → key_of g ≡ key → same_name key.name g.name ≡ true
  named_as g is = ap (λ (q : DueKey). same_name key.name q.name) is ∙ same_name_equiv.refl key.name

  -- no group has the name
  pub current_none : position (λ g. same_name key.name g.name) gs ≡ None → IsCurrent gs key None
  current_none at j d within is =
      let test : Group → _ = λ g. same_name key.name g.name in
      absurd (true≢false (sym (named_as (get_or gs j d) is) ∙ fails_at test gs j d within (none-find test gs (find-no_position test gs at))))

  module _ (i : ℕ) (g : Group) (distinct : IsDistinct same_name (names_of gs)) (at : position (λ g. same_name key.name g.name) gs ≡ Some i) (holds : g ≡ get_or gs i g) where
    within_list : i < length gs
    within_list = (position-Some (λ (x : Group). same_name key.name x.name) gs i g at).0

    any_is_there : (d : Group) → get_or gs i d ≡ g
    any_is_there d = get_or_default gs i d g within_list ∙ sym holds

    -- it alone can have the key
    alone : (j : ℕ) (d : Group) → j < length gs → key_of (get_or gs j d) ≡ key → j ≡ i
    alone j d within is =
        only_index gs i j g d distinct within_list within
        (ap (λ n. same_name n (get_or gs j d).name) (named_at key.name gs i g at) ∙ named_as (get_or gs j d) is)

    -- the group of the name is due at the key's time
    pub current_some : g.due ≡ key.due → IsCurrent gs key (Some i)
    current_some due =
        (within_list, λ d. ap key_of (any_is_there d) ∙ (λ k. record { due = due k; name = (ap (λ (x : Group). x.name) holds ∙ named_at key.name gs i g at) k }), alone)

    -- it is due at another one
    pub current_stale : (g.due ≡ key.due → ⊥) → IsCurrent gs key None
    current_stale other j d within is =
        let index : j ≡ i = alone j d within is in
        other (ap (λ (x : Group). x.due) (sym (any_is_there d) ∙ ap (λ n. get_or gs n d) (sym index)) ∙ ap (λ (q : DueKey). q.due) is)
