-- The groups as they are kept: a change of one, and capacity in the one of a name.
use Rattle.std.proofs.Common.{◌≡◌, ℕ, zero, suc, ◌<◌, false, true≢false, Some, None, List, [], ◌∷◌, length, get_or, get_or-set_same, slice_get, set, sym, ap, ◌∙◌, subst}
use Rattle.std.specs.List.{position, AllByRecursion, IsDistinct}
use Rattle.std.specs.Map.{values_of}
use Rattle.std.proofs.lemmas.List.{get_or_default, set-get_or}
use Rattle.std.proofs.lemmas.List.Elements.{All-nil, All-cons}
use Rattle.std.proofs.lemmas.List.Quantifiers.{position-Some}
use Rattle.indexmap.specs.Layout.{set_value_at}
use Rattle.am_board.specs.Group.{names_of, HasSpace, Fits, Changes}
use Rattle.am_board.specs.GroupList.{GroupList}
use Rattle.am_model.specs.State.{same_name}
use Rattle.am_board.specs.declared.group.Group.{Group}
use Rattle.am_model.specs.declared.group.GroupName.{GroupName}
use Rattle.am_model.proofs.lists.Alone.{IsAlone, alone-distinct, find-no_position, none-find}
use Rattle.am_board.proofs.lemmas.invariant.Keyed.{value_at, values-set}
use Rattle.am_model.proofs.lists.Indexes.{position-map}
use Rattle.am_model.proofs.states.Alike.{same_name_equiv, same_name-is}

-- the groups of these entries
abbrev pub listed : List (GroupName × Group) → ℕ → GroupList
listed es space = record { items = values_of es; space = space }

module _ (es : List (GroupName × Group)) (space : ℕ) (k : GroupList) (seen : listed es space ≡ k) (i : ℕ) (from : Group) (at : slice_get (values_of es) i ≡ Some from) where
  -- the group at an index is one of the list
  pub lent_at : from ≡ get_or k.items i from
  lent_at = (value_at (values_of es) i from at).0 ∙ ap (λ (g : GroupList). get_or g.items i from) seen

  pub within_at : i < length k.items
  within_at = subst (λ (g : GroupList). i < length g.items) seen (value_at (values_of es) i from at).1

  pub lent_as : (d : Group) → from ≡ get_or k.items i d
  lent_as d = lent_at ∙ get_or_default k.items i from d within_at

  -- what is written there is there
  pub written_at : (to d : Group) → get_or (values_of (set_value_at es i to)) i d ≡ to
  written_at to d = ap (λ gs. get_or gs i d) (values-set es i to) ∙ get_or-set_same (values_of es) i to d (value_at (values_of es) i from at).1

  -- it was written as it was
  pub same_at : (to : Group) → to ≡ from → listed (set_value_at es i to) space ≡ k
  same_at to same =
      ap (λ gs. record { items = gs; space = space }) (values-set es i to ∙ ap (set (values_of es) i) (same ∙ (value_at (values_of es) i from at).0) ∙ set-get_or (values_of es) i from)
      ∙ seen

  -- it was changed
  pub changes_at : (change : Group → Group → Type 0) (to : Group) → to.name ≡ from.name → change from to → Changes change i k (listed (set_value_at es i to) space)
  changes_at change to named is =
      record {
        from = from;
        to = to;
        was = lent_at;
        items = values-set es i to ∙ ap (λ (g : GroupList). set g.items i to) seen;
        space = ap (λ (g : GroupList). g.space) seen;
        name = named;
        changed = is;
      }

-- the group that is found has the name
pub named_at : (name : GroupName) (gs : List Group) (i : ℕ) (d : Group) → position (λ g. same_name name g.name) gs ≡ Some i → (get_or gs i d).name ≡ name
named_at name gs i d at = sym (same_name-is name (get_or gs i d).name (position-Some (λ (g : Group). same_name name g.name) gs i d at).1)

module _ (name : GroupName) (more : ℕ) where
  abbrev Has : Group → Type 0
  Has g = g.name ≡ name → Fits more g

  other : (g : Group) → same_name name g.name ≡ false → Has g
  other g apart same = absurd (true≢false (sym (same_name_equiv.refl name) ∙ (ap (same_name name) (sym same) ∙ apart)))

  space_none : (gs : List Group) → AllByRecursion (λ n. same_name name n ≡ false) (names_of gs) → HasSpace more name gs
  space_none [] all = All-nil Has
  space_none (g ∷ gs) all = All-cons Has g gs (other g all.0) (space_none gs all.1)

  space_alone : (gs : List Group) (i : ℕ) → IsAlone (same_name name) (names_of gs) i → ((d : Group) → Fits more (get_or gs i d)) → HasSpace more name gs
  space_alone [] i alone fits = absurd alone
  space_alone (g ∷ gs) zero alone fits = All-cons Has g gs (λ _. fits g) (space_none gs alone.1)
  space_alone (g ∷ gs) (suc i) alone fits = All-cons Has g gs (other g alone.0) (space_alone gs i alone.1 fits)

  -- no group has the name
  pub space_missing : (gs : List Group) → position (λ g. same_name name g.name) gs ≡ None → HasSpace more name gs
  space_missing gs at =
      let none = position-map (λ (g : Group). g.name) (same_name name) gs ∙ at in
      space_none gs (none-find (same_name name) (names_of gs) (find-no_position (same_name name) (names_of gs) none))

  -- the only group of the name has the capacity
  pub space_reserved : (old new : List Group) (i : ℕ) → names_of new ≡ names_of old → IsDistinct same_name (names_of old) → position (λ g. same_name name g.name) old ≡ Some i → ((d : Group) → Fits more (get_or new i d)) → HasSpace more name new
  space_reserved old new i named distinct at fits =
      let index = position-map (λ (g : Group). g.name) (same_name name) old ∙ at in
      let h = position-Some (same_name name) (names_of old) i name index in
      let alone : IsAlone (same_name name) (names_of old) i =
      alone-distinct same_name same_name_equiv (same_name name) (names_of old) i name h.0 distinct (λ y. same_name_equiv.congr name (get_or (names_of old) i name) y h.1) in
      space_alone new i (subst (λ ns. IsAlone (same_name name) ns i) (sym named) alone) fits
