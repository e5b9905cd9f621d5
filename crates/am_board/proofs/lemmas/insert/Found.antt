-- The indexes that were found for placements stay theirs, whatever capacity is made and whatever group is added.
use Rattle.std.proofs.Common.{◌≡◌, ◌∙◌, ℕ, ◌<◌, ◌&&◌, false, Option, Some, None, List, [], ◌∷◌, map, length, refl, sym, ap, subst, inl, inr, arith}
use Rattle.std.specs.Prelude.{IfSome, ◌==◌}
use Rattle.std.specs.List.{AllByRecursion, IsDistinct, position}
use Rattle.std.proofs.lemmas.List.Kept.{AllPairs-from_increasing}
use Rattle.std.proofs.lemmas.List.Quantifiers.{position-Some}
use Rattle.std.proofs.lemmas.Bool.Decides.{Decides-eqb}
use Rattle.std.proofs.lemmas.Map.Made.{IsDistinct-from_AllPairs}
use Rattle.am_alerts.proofs.Positions.{routes_of-rises}
use Rattle.am_alerts.specs.Labels.{same_label_set}
use Rattle.am_alerts.specs.RoutingTree.{routes_of}
use Rattle.am_alerts.specs.declared.labels.Label.{Label}
use Rattle.am_board.specs.declared.group.Group.{Group}
use Rattle.am_board.specs.declared.insert.Placement.{Placement}
use Rattle.am_board.specs.Group.{names_of, AddsAtMost, HasSpace}
use Rattle.am_board.specs.Inserting.{index_in, IsFound, AreFound, AreApart, HaveSpace, target_of}
use Rattle.am_board.specs.Refinement.{group_state}
use Rattle.am_model.specs.declared.config.Config.{Config}
use Rattle.am_model.specs.declared.group.GroupName.{GroupName}
use Rattle.am_model.specs.Insert.{name_in, names_for, same_group}
use Rattle.am_model.specs.State.{GroupState, same_name}
use Rattle.am_model.proofs.lists.Distinct.{all_from, all_to, all-both, IsDistinct-mapped, IsDistinct-unmap}
use Rattle.am_model.proofs.lists.Indexes.{position-map, position-last}

-- an index is reported by the names alone
by_names : (name : GroupName) (gs : List Group) → index_in name gs ≡ position (same_name name) (names_of gs)
by_names name gs = sym (position-map (λ (g : Group). g.name) (same_name name) gs)

pub same_indexes : (name : GroupName) (old new : List Group) → names_of new ≡ names_of old → index_in name new ≡ index_in name old
same_indexes name old new e = by_names name new ∙ (ap (position (same_name name)) e ∙ sym (by_names name old))

pub still_found : (ps : List Placement) (old new : List Group) → names_of new ≡ names_of old → AreFound old ps → AreFound new ps
still_found ps old new e found i d within = found i d within ∙ sym (same_indexes _ old new e)

-- an index that was found is one of the list
pub found_within : (index : Option ℕ) (name : GroupName) (gs : List Group) → index ≡ index_in name gs → IfSome index (λ i. i < length gs)
found_within None name [] e = tt
found_within None name (g ∷ gs) e = tt
found_within (Some i) name [] e = absurd (cc)
found_within (Some i) name (g ∷ gs) e = (position-Some (λ (h : Group). same_name name h.name) (g ∷ gs) i g (sym e)).0

-- a group of another route that is added moves no index
pub found_more : (x : GroupName) (old new : List Group) → AddsAtMost (names_of old) x (names_of new) → (name : GroupName) → (name.route == x.route) ≡ false → index_in name new ≡ index_in name old
found_more x old new added name other =
    elim added [
      | inl e ↦ same_indexes name old new e
      | inr e ↦
          let apart : same_name name x ≡ false = ap (λ b. b && same_label_set name.labels x.labels) other in
          by_names name new ∙ (ap (position (same_name name)) e ∙ (position-last (same_name name) x apart (names_of old) ∙ sym (by_names name old)))
    ]

pub found_rest : (x : GroupName) (old new : List Group) → AddsAtMost (names_of old) x (names_of new) → (rest : List Placement) → AllByRecursion (λ p. (p.name.route == x.route) ≡ false) rest → AreFound old rest → AreFound new rest
found_rest x old new added rest others found =
    let Was : Placement → Type 0 = λ p. IsFound old (target_of p) in
    let Is : Placement → Type 0 = λ p. IsFound new (target_of p) in
    all_from Is rest
    (all-both (λ p. (p.name.route == x.route) ≡ false) Was Is (λ p other at. at ∙ sym (found_more x old new added p.name other)) rest others (all_to Was rest found))

-- the capacity in groups of other routes stays
pub space_rest : (x : GroupName) (old new : List Group) → ((name : GroupName) → (name.route == x.route) ≡ false → HasSpace 1 name old → HasSpace 1 name new) → (rest : List Placement) → AllByRecursion (λ p. (p.name.route == x.route) ≡ false) rest → HaveSpace old rest → HaveSpace new rest
space_rest x old new kept rest others had =
    let Was : Placement → Type 0 = λ p. HasSpace 1 p.name old in
    let Is : Placement → Type 0 = λ p. HasSpace 1 p.name new in
    all_from Is rest
    (all-both (λ p. (p.name.route == x.route) ≡ false) Was Is (λ p other space. kept p.name other space) rest others (all_to Was rest had))

-- the placements of an alert are of different routes
routes-named : (config : Config) (labels : List Label) (rs : List ℕ) → map (λ n. n.route) (map (name_in config labels) rs) ≡ rs
routes-named config labels [] = refl
routes-named config labels (r ∷ rs) = ap (λ qs. r ∷ qs) (routes-named config labels rs)

routes-placed : (ps : List Placement) → map (λ p. p.name.route) ps ≡ map (λ n. n.route) (map (λ p. p.name) ps)
routes-placed [] = refl
routes-placed (p ∷ ps) = ap (λ rs. p.name.route ∷ rs) (routes-placed ps)

pub are_apart : (config : Config) (labels : List Label) (ps : List Placement) → map (λ p. p.name) ps ≡ names_for config labels → AreApart ps
are_apart config labels ps names =
    let routes : List ℕ = routes_of config.routes labels in
    let same : map (λ (p : Placement). p.name.route) ps ≡ routes = routes-placed ps ∙ (ap (map (λ (n : GroupName). n.route)) names ∙ routes-named config labels routes) in
    let rise = AllPairs-from_increasing routes (routes_of-rises config.routes labels) in
    let apart : IsDistinct (λ a b. a == b) routes = IsDistinct-from_AllPairs Decides-eqb routes (λ i j d before within e. absurd (below _ _ (rise i j d before within) e)) in
    IsDistinct-unmap (λ (p : Placement). p.name.route) (λ a b. a == b) ps (subst (IsDistinct (λ a b. a == b)) (sym same) apart)
  where
    below : (a b : ℕ) → a < b → a ≡ b → ⊥
    below a b less e = absurd (omega (arith, less, e))

-- the groups of a state in which no two have one name
pub names_apart : (gs : List Group) → IsDistinct same_group (map group_state gs) → IsDistinct same_name (names_of gs)
names_apart gs h = subst (IsDistinct same_name) (returned gs) (IsDistinct-mapped same_group same_name (λ (g : GroupState). g.name) (λ x y. refl) (map group_state gs) h)
  where
    returned : (gs : List Group) → map (λ (g : GroupState). g.name) (map group_state gs) ≡ names_of gs
    returned [] = refl
    returned (g ∷ gs) = ap (λ ns. g.name ∷ ns) (returned gs)
