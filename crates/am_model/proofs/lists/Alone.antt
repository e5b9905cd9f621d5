-- An element that alone passes a test: what it is to find it, to change it where the test passes, and to leave it out.
use Rattle.std.proofs.Common.{◌≡◌, ℕ, zero, suc, ◌<◌, Bool, true, false, cond, not, Some, None, List, [], ◌∷◌, length, map, get_or, set, filter, find, refl, ap, ◌∙◌, arith}
use Rattle.std.specs.Prelude.{position, nat_lt}
use Rattle.std.specs.Option.{option_map}
use Rattle.std.proofs.lemmas.Bool.{ltb-false}
use Rattle.std.proofs.lemmas.List.Folds.{find_at}
use Rattle.std.proofs.lemmas.List.Quantifiers.{position-Some}
use Rattle.std.proofs.lemmas.Option.{slice_get_past}
use Rattle.std.specs.Cmp.{IsEquivalence}
use Rattle.std.specs.List.{remove, position_or_len, IsDistinct, AllByRecursion}
use Rattle.std.proofs.lemmas.Map.Keys.{IsDistinct-head, IsDistinct-tail}
use Rattle.am_model.specs.Lists.{without, changed_where}

-- the element at an index passes, and no other one does
abbrev pub IsAlone : {X : Type 0} → (X → Bool) → List X → ℕ → Type 0
IsAlone test [] i = ⊥
IsAlone test (x ∷ xs) zero = (test x ≡ true) × AllByRecursion (λ y. test y ≡ false) xs
IsAlone test (x ∷ xs) (suc i) = (test x ≡ false) × IsAlone test xs i

module _ {X : Type 0} (test : X → Bool) where
  pub find-alone : (xs : List X) (i : ℕ) (d : X) → IsAlone test xs i → find test xs ≡ Some (get_or xs i d)
  find-alone [] i d alone = absurd alone
  find-alone (x ∷ xs) zero d alone = ap (λ b. cond b (Some x) (find test xs)) alone.0
  find-alone (x ∷ xs) (suc i) d alone = ap (λ b. cond b (Some x) (find test xs)) alone.0 ∙ find-alone xs i d alone.1

  pub find-none : (xs : List X) → AllByRecursion (λ y. test y ≡ false) xs → find test xs ≡ None
  find-none [] all = refl
  find-none (x ∷ xs) all = ap (λ b. cond b (Some x) (find test xs)) all.0 ∙ find-none xs all.1

  pub changed_where-none : (change : X → X) (xs : List X) → AllByRecursion (λ y. test y ≡ false) xs → changed_where test change xs ≡ xs
  changed_where-none change [] all = refl
  changed_where-none change (x ∷ xs) all = λ i. cond (all.0 i) (change x) x ∷ changed_where-none change xs all.1 i

  pub changed_where-alone : (change : X → X) (xs : List X) (i : ℕ) (d : X) → IsAlone test xs i → changed_where test change xs ≡ set xs i (change (get_or xs i d))
  changed_where-alone change [] i d alone = absurd alone
  changed_where-alone change (x ∷ xs) zero d alone = λ i. cond (alone.0 i) (change x) x ∷ changed_where-none change xs alone.1 i
  changed_where-alone change (x ∷ xs) (suc i) d alone = λ j. cond (alone.0 j) (change x) x ∷ changed_where-alone change xs i d alone.1 j

  pub without-none : (xs : List X) → AllByRecursion (λ y. test y ≡ false) xs → without test xs ≡ xs
  without-none [] all = refl
  without-none (x ∷ xs) all = ap (λ b. cond (not b) (x ∷ without test xs) (without test xs)) all.0 ∙ ap (λ ys. x ∷ ys) (without-none xs all.1)

  pub without-alone : (xs : List X) (i : ℕ) → IsAlone test xs i → without test xs ≡ remove xs i
  without-alone [] i alone = absurd alone
  without-alone (x ∷ xs) zero alone = ap (λ b. cond (not b) (x ∷ without test xs) (without test xs)) alone.0 ∙ without-none xs alone.1
  without-alone (x ∷ xs) (suc i) alone = ap (λ b. cond (not b) (x ∷ without test xs) (without test xs)) alone.0 ∙ ap (λ ys. x ∷ ys) (without-alone xs i alone.1)

  -- a change that changes nothing
  pub changed_where-same : (change : X → X) → ((x : X) → change x ≡ x) → (xs : List X) → changed_where test change xs ≡ xs
  changed_where-same change same [] = refl
  changed_where-same change same (x ∷ xs) = λ i. stays (test x) i ∷ changed_where-same change same xs i
    where
      stays : (b : Bool) → cond b (change x) x ≡ x
      stays true = same x
      stays false = refl

module _ {X : Type 0} (like : X → X → Bool) (laws : IsEquivalence like) (test : X → Bool) where
  none_else : (x : X) (xs : List X) → ((y : X) → test y ≡ like x y) → AllByRecursion (λ y. like x y ≡ false) xs → AllByRecursion (λ y. test y ≡ false) xs
  none_else x [] same all = tt
  none_else x (y ∷ ys) same all = (same y ∙ all.0, none_else x ys same all.1)

  passed : (P : X → Type 0) (xs : List X) (i : ℕ) (d : X) → i < length xs → AllByRecursion P xs → P (get_or xs i d)
  passed P [] i d within all = absurd (omega arith)
  passed P (x ∷ xs) zero d within all = all.0
  passed P (x ∷ xs) (suc i) d within all = passed P xs i d (omega arith) all.1

  -- an element that a test takes for one kind, where no two elements are of one kind
  pub alone-distinct : (xs : List X) (i : ℕ) (d : X) → i < length xs → IsDistinct like xs → ((y : X) → test y ≡ like (get_or xs i d) y) → IsAlone test xs i
  alone-distinct [] i d within h same = absurd (omega arith)
  alone-distinct (x ∷ xs) zero d within h same = (same x ∙ laws.refl x, none_else x xs same (IsDistinct-head like x xs h))
  alone-distinct (x ∷ xs) (suc i) d within h same =
      let apart : like x (get_or xs i d) ≡ false = passed (λ y. like x y ≡ false) xs i d (omega arith) (IsDistinct-head like x xs h) in
      (same x ∙ laws.symm (get_or xs i d) x ∙ apart, alone-distinct xs i d (omega arith) (IsDistinct-tail like x xs h) same)

-- a change of the elements that are like one, in a list in which no two are alike
pub changed_where-like : {X : Type 0} (like : X → X → Bool) → IsEquivalence like → (change : X → X) (xs : List X) (i : ℕ) (d : X)
    → IsDistinct like xs → i < length xs
    → changed_where (like (get_or xs i d)) change xs ≡ set xs i (change (get_or xs i d))
changed_where-like like laws change xs i d distinct within =
    changed_where-alone (like (get_or xs i d)) change xs i d (alone-distinct like laws (like (get_or xs i d)) xs i d within distinct (λ y. refl))

-- ---- what `position` and `find` answer

module _ {X : Type 0} (test : X → Bool) where
  found_first : (xs : List X) (i : ℕ) (d : X) → i < length xs → test (get_or xs i d) ≡ true → ((k : ℕ) → k < i → test (get_or xs k d) ≡ false) → find test xs ≡ Some (get_or xs i d)
  found_first [] i d within here before = absurd (omega arith)
  found_first (x ∷ xs) zero d within here before = ap (λ b. cond b (Some x) (find test xs)) here
  found_first (x ∷ xs) (suc i) d within here before =
      ap (λ b. cond b (Some x) (find test xs)) (before 0 (omega arith)) ∙ found_first xs i d (omega arith) here (λ k h. before (suc k) (omega arith))

  pub find-position : (xs : List X) (i : ℕ) (d : X) → position test xs ≡ Some i → find test xs ≡ Some (get_or xs i d)
  find-position xs i d e = let h = position-Some test xs i d e in found_first xs i d h.0 h.1 h.2

  pub find-no_position : (xs : List X) → position test xs ≡ None → find test xs ≡ None
  find-no_position xs =
      elim (nat_lt (position_or_len test xs) (length xs)) as (λ b. nat_lt (position_or_len test xs) (length xs) ≡ b → cond b (Some (position_or_len test xs)) None ≡ None → find test xs ≡ None) [
        | true ↦ λ e h. absurd (cc)
        | false ↦ λ e h. find_at test xs ∙ slice_get_past xs (position_or_len test xs) (ltb-false (position_or_len test xs) (length xs) e)
      ] refl

  pub none-find : (xs : List X) → find test xs ≡ None → AllByRecursion (λ y. test y ≡ false) xs
  none-find [] h = tt
  none-find (x ∷ xs) h =
      elim (test x) as (λ b. test x ≡ b → cond b (Some x) (find test xs) ≡ None → AllByRecursion (λ y. test y ≡ false) (x ∷ xs)) [
        | true ↦ λ e g. absurd (cc)
        | false ↦ λ e g. (e, none-find xs g)
      ] refl h

  pub find-mapped : {Y : Type 0} (h : Y → X) (ys : List Y) → find test (map h ys) ≡ option_map h (find (λ y. test (h y)) ys)
  find-mapped h [] = refl
  find-mapped h (y ∷ ys) =
      elim (test (h y)) as (λ b. cond b (Some (h y)) (find test (map h ys)) ≡ option_map h (cond b (Some y) (find (λ z. test (h z)) ys))) [
        | true ↦ refl
        | false ↦ find-mapped h ys
      ]

  pub filter-none : (xs : List X) → AllByRecursion (λ y. test y ≡ false) xs → filter test xs ≡ []
  filter-none [] all = refl
  filter-none (x ∷ xs) all = ap (λ b. cond b (x ∷ filter test xs) (filter test xs)) all.0 ∙ filter-none xs all.1

  pub all-never : ((x : X) → test x ≡ false) → (xs : List X) → AllByRecursion (λ y. test y ≡ false) xs
  all-never never [] = tt
  all-never never (x ∷ xs) = (never x, all-never never xs)
