-- The names of groups, and the capacity in them, stay through what is done to one of them.
use Rattle.std.proofs.Common.{◌≡◌, ◌≢◌, ℕ, ◌<◌, ◌≤◌, true, false, eqb, List, [], ◌∷◌, ◌++◌, length, map, get_or, take, refl, sym, inl, inr, ap, ◌∙◌, subst, arith, eqb-true, get_or-set_same, get_or-set_other}
use Rattle.std.proofs.lemmas.Bool.{eqb-false}
use Rattle.std.proofs.Math.ListN.{set, length-set}
use Rattle.std.proofs.Math.Seq.{map-set_same, take-append_seam}
use Rattle.std.proofs.lemmas.List.{get_or-map, length-map}
use Rattle.am_board.specs.declared.group.Group.{Group}
use Rattle.am_model.specs.declared.group.GroupName.{GroupName}
use Rattle.std.proofs.lemmas.List.Elements.{All-append, All-cons, All-nil}
use Rattle.am_alerts.specs.RoutingTree.{RoutingTree, last_of}
use Rattle.am_board.specs.Refinement.{group_state}
use Rattle.am_board.specs.Group.{names_of, label_sets, AreRouted, AddsAtMost, HasSpace, Fits}

-- one group is replaced by one of its name
pub names_set : (gs : List Group) (i : ℕ) (g d : Group) → g.name ≡ (get_or gs i d).name → names_of (set gs i g) ≡ names_of gs
names_set gs i g d h = map-set_same (λ g. g.name) gs i g d h

-- one group is replaced by one with its label sets
pub labels_set : (gs : List Group) (i : ℕ) (g d : Group) → label_sets g ≡ label_sets (get_or gs i d) → map label_sets (set gs i g) ≡ map label_sets gs
labels_set gs i g d h = map-set_same label_sets gs i g d h

-- one group is replaced by one of its state
pub states_set : (gs : List Group) (i : ℕ) (g d : Group) → group_state g ≡ group_state (get_or gs i d) → map group_state (set gs i g) ≡ map group_state gs
states_set gs i g d h = map-set_same group_state gs i g d h

-- a group is added
pub names-push : (gs : List Group) (g : Group) → names_of (gs ++ g ∷ []) ≡ names_of gs ++ g.name ∷ []
names-push [] g = refl
names-push (x ∷ gs) g = ap (λ ns. x.name ∷ ns) (names-push gs g)

-- a name is added whose route is there
pub routed_added : (tree : RoutingTree) (old : List GroupName) (name : GroupName) (new : List GroupName) → AreRouted tree old → name.route ≤ last_of tree → AddsAtMost old name new → AreRouted tree new
routed_added tree old name new routed here added =
    elim added [
      | inl e ↦ subst (AreRouted tree) (sym e) routed
      | inr e ↦ subst (AreRouted tree) (sym e) (All-append (λ (n : GroupName). n.route ≤ last_of tree) old (name ∷ []) routed (All-cons (λ (n : GroupName). n.route ≤ last_of tree) name [] here (All-nil (λ (n : GroupName). n.route ≤ last_of tree))))
    ]

-- a group of another name is replaced by one of its name
pub space_other : (n : ℕ) (name : GroupName) (gs : List Group) (i : ℕ) (g : Group) → i < length gs → (g.name ≡ name → ⊥) → HasSpace n name gs → HasSpace n name (set gs i g)
space_other n name gs i g within other space k d h same =
    let there : k < length gs = omega (arith, h, length-set gs i g) in
    elim (eqb k i) as (λ b. eqb k i ≡ b → Fits n (get_or (set gs i g) k d)) [
      | true ↦ λ e.
          let at : get_or (set gs i g) k d ≡ g = ap (λ j. get_or (set gs i g) j d) (eqb-true k i e) ∙ get_or-set_same gs i g d within in
          absurd (other (ap (λ x. x.name) (sym at) ∙ same))
      | false ↦ λ e.
          let apart : k ≢ i = eqb-false k i e in
          let at : get_or (set gs i g) k d ≡ get_or gs k d = get_or-set_other gs i k g d apart in
          subst (Fits n) (sym at) (space k d there (ap (λ x. x.name) (sym at) ∙ same))
    ] refl

-- a group of another name is added
pub space_push : (n : ℕ) (name : GroupName) (gs : List Group) (g : Group) → (g.name ≡ name → ⊥) → HasSpace n name gs → HasSpace n name (gs ++ g ∷ [])
space_push n name gs g other space =
    let P : Group → Type 0 = λ x. x.name ≡ name → Fits n x in
    All-append P gs (g ∷ []) space (All-cons P g [] (λ same. absurd (other same)) (All-nil P))

-- a whole list, lent as a slice and given back
pub whole_again : {X : Type 0} (n : ℕ) (xs ys : List X) → length xs ≡ n → take n (xs ++ ys) ≡ xs
whole_again n xs ys e = subst (λ m. take m (xs ++ ys) ≡ xs) e (take-append_seam xs ys)

-- the route of a group at an index is there
pub routed_at : (tree : RoutingTree) (gs : List Group) (i : ℕ) (g : Group) → AreRouted tree (names_of gs) → i < length gs → g ≡ get_or gs i g → g.name.route ≤ last_of tree
routed_at tree gs i g routed within is =
    let within_names : i < length (names_of gs) = omega (arith, within, length-map gs (λ (x : Group). x.name)) in
    let at : get_or (names_of gs) i g.name ≡ g.name = get_or-map (λ (x : Group). x.name) gs i g g.name within ∙ ap (λ (x : Group). x.name) (sym is) in
    subst (λ (n : GroupName). n.route ≤ last_of tree) at (routed i g.name within_names)
