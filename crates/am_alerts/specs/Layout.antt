-- How a forest lies in a list.
use Rattle.std.specs.Prelude.{◌≡◌, ℕ, ◌+◌, ◌-◌, List, [], ◌∷◌, ◌++◌, nat_lt, if◌then◌else◌}
use Rattle.std.specs.Coded.{Coded, code_by, coded×, coded_list, coded_ℕ}
use Rattle.std.proofs.Common.{refl, sym, ap, ◌∙◌, arith, append_assoc}
use Rattle.std.proofs.lemmas.List.{append-nil}
use Rattle.std.proofs.lemmas.Bool.{lt-ltb, le-ltb}
use Rattle.am_alerts.specs.Forest.{Forest, bare, grow, count}

-- a forest in the order of its positions, each with the number of those below it
abbrev pub preorder : {X : Type 0} → Forest X → List (X × ℕ)
preorder bare = []
preorder (grow x below after) = (x, count below) ∷ (preorder below ++ preorder after)

-- the first trees, of so many routes in all
abbrev pub first_trees : {X : Type 0} → ℕ → Forest X → Forest X
first_trees n bare = bare
first_trees n (grow x below after) =
    if nat_lt n (count below + 1) then bare else grow x below (first_trees (n - (count below + 1)) after)

-- the trees behind them
abbrev pub other_trees : {X : Type 0} → ℕ → Forest X → Forest X
other_trees n bare = bare
other_trees n (grow x below after) =
    if nat_lt n (count below + 1) then grow x below after else other_trees (n - (count below + 1)) after

-- the forest that lies in a list
abbrev pub planted : {X : Type 0} → List (X × ℕ) → Forest X
planted [] = bare
planted (t ∷ ts) = grow t.0 (first_trees t.1 (planted ts)) (other_trees t.1 (planted ts))

-- ---- a forest is planted again from where it lies, so it is stored as that list

-- one forest and then another
abbrev pub followed : {X : Type 0} → Forest X → Forest X → Forest X
followed bare others = others
followed (grow x below after) others = grow x below (followed after others)

module _ {X : Type 0} where
  pub first_trees-none : (f : Forest X) → first_trees 0 f ≡ bare
  first_trees-none bare = refl
  first_trees-none (grow x below after) =
      ap (λ b. if b then bare else grow x below (first_trees (0 - (count below + 1)) after)) (lt-ltb 0 (count below + 1) (omega arith))

  pub other_trees-none : (f : Forest X) → other_trees 0 f ≡ f
  other_trees-none bare = refl
  other_trees-none (grow x below after) =
      ap (λ b. if b then grow x below after else other_trees (0 - (count below + 1)) after) (lt-ltb 0 (count below + 1) (omega arith))

  first_trees-followed : (f g : Forest X) → first_trees (count f) (followed f g) ≡ f
  first_trees-followed bare g = first_trees-none g
  first_trees-followed (grow x below after) g =
      let n = count below + 1 + count after in
      let left : n - (count below + 1) ≡ count after = omega arith in
      ap (λ b. if b then bare else grow x below (first_trees (n - (count below + 1)) (followed after g)))
      (le-ltb n (count below + 1) (omega arith))
      ∙ ap (λ k. grow x below (first_trees k (followed after g))) left
      ∙ ap (λ f. grow x below f) (first_trees-followed after g)

  other_trees-followed : (f g : Forest X) → other_trees (count f) (followed f g) ≡ g
  other_trees-followed bare g = other_trees-none g
  other_trees-followed (grow x below after) g =
      let n = count below + 1 + count after in
      let left : n - (count below + 1) ≡ count after = omega arith in
      ap (λ b. if b then grow x below (followed after g) else other_trees (n - (count below + 1)) (followed after g))
      (le-ltb n (count below + 1) (omega arith))
      ∙ ap (λ k. other_trees k (followed after g)) left
      ∙ other_trees-followed after g

  pub planted-followed : (f : Forest X) (ts : List (X × ℕ)) → planted (preorder f ++ ts) ≡ followed f (planted ts)
  planted-followed bare ts = refl
  planted-followed (grow x below after) ts =
      let rest : planted ((preorder below ++ preorder after) ++ ts) ≡ followed below (followed after (planted ts)) =
      ap planted (append_assoc (preorder below) (preorder after) ts) ∙ planted-followed below (preorder after ++ ts)
      ∙ ap (followed below) (planted-followed after ts) in
      ap (λ f. grow x (first_trees (count below) f) (other_trees (count below) f)) rest
      ∙ ap (λ f. grow x f (other_trees (count below) (followed below (followed after (planted ts)))))
      (first_trees-followed below (followed after (planted ts)))
      ∙ ap (λ f. grow x below f) (other_trees-followed below (followed after (planted ts)))

  followed-bare : (f : Forest X) → followed f bare ≡ f
  followed-bare bare = refl
  followed-bare (grow x below after) = ap (λ f. grow x below f) (followed-bare after)

  pub planted_of_preorder : (f : Forest X) → planted (preorder f) ≡ f
  planted_of_preorder f = ap planted (sym (append-nil (preorder f))) ∙ planted-followed f [] ∙ followed-bare f

-- the code of a forest: where it lies
abbrev pub forest_code : {X : Type 0} → Coded X → Coded (Forest X)
forest_code {X = X} c = code_by (List (X × ℕ)) (coded_list (coded× c coded_ℕ)) preorder planted planted_of_preorder
