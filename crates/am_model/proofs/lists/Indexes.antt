-- Where the first element that passes a test is, and what putting an element in does there.
use Rattle.std.proofs.Common.{◌≡◌, ℕ, suc, ◌+◌, Bool, true, false, cond, not, ◌||◌, ltb, Some, None, List, [], ◌∷◌, ◌++◌, map, length, is_some, refl, sym, ap, ◌∙◌, arith}
use Rattle.std.specs.Prelude.{is_none}
use Rattle.std.specs.List.{AllByRecursion, count_by, list_any, position, position_or_len}
use Rattle.std.proofs.Math.ListN.{set}
use Rattle.std.proofs.lemmas.Bool.Decides.{nat_tests}
use Rattle.std.proofs.lemmas.List.{length-map, map-set, map-append}
use Rattle.std.proofs.lemmas.List.Sums.{sum_by-cons}
use Rattle.am_model.specs.Lists.{upsert}
use Rattle.am_model.proofs.lists.Words.{upsert-none, upsert-some}

less_more : (a b : ℕ) → ltb (1 + a) (suc b) ≡ ltb a b
less_more a b = grind (arith, nat_tests)

some_less : (b : ℕ) → true ≡ ltb 0 (suc b)
some_less b = grind (arith, nat_tests)

-- what a test of an index in a list that is given as an option says
some_is : (b : Bool) (n i : ℕ) → cond b (Some n) None ≡ Some i → (b ≡ true) × (n ≡ i)
some_is true n i e = (refl, cc)
some_is false n i e = absurd (cc)

none_is : (b : Bool) (n : ℕ) → cond b (Some n) None ≡ None → b ≡ false
none_is true n e = absurd (cc)
none_is false n e = refl

module _ {X : Type 0} (p : X → Bool) where
  any_at : (xs : List X) → list_any p xs ≡ ltb (position_or_len p xs) (length xs)
  any_at [] = refl
  any_at (y ∷ ys) =
      elim (p y) as (λ b. (b || list_any p ys) ≡ ltb (cond (not b) (1 + position_or_len p ys) 0) (suc (length ys))) [
        | true ↦ some_less (length ys)
        | false ↦ any_at ys ∙ sym (less_more (position_or_len p ys) (length ys))
      ]

  -- an element passes where there is an index of one
  pub any-some : (xs : List X) (i : ℕ) → position p xs ≡ Some i → list_any p xs ≡ true
  any-some xs i e = any_at xs ∙ (some_is (ltb (position_or_len p xs) (length xs)) (position_or_len p xs) i e).0

  pub any-none : (xs : List X) → position p xs ≡ None → list_any p xs ≡ false
  any-none xs e = any_at xs ∙ none_is (ltb (position_or_len p xs) (length xs)) (position_or_len p xs) e

  -- whether there is no index says whether none passes
  pub none_any : (xs : List X) → is_none (position p xs) ≡ not (list_any p xs)
  none_any xs =
      elim (ltb (position_or_len p xs) (length xs)) as (λ b. is_none (cond b (Some (position_or_len p xs)) None) ≡ not b) [
        | true ↦ refl
        | false ↦ refl
      ]
      ∙ ap not (sym (any_at xs))

  pub is_some-position : (xs : List X) → is_some (position p xs) ≡ list_any p xs
  is_some-position xs =
      elim (ltb (position_or_len p xs) (length xs)) as (λ b. is_some (cond b (Some (position_or_len p xs)) None) ≡ b) [
        | true ↦ refl
        | false ↦ refl
      ]
      ∙ sym (any_at xs)

  pub index-some : (xs : List X) (i : ℕ) → position p xs ≡ Some i → position_or_len p xs ≡ i
  index-some xs i e = (some_is (ltb (position_or_len p xs) (length xs)) (position_or_len p xs) i e).1

-- one that fails, added last, moves no index
module _ {X : Type 0} (p : X → Bool) (x : X) (fails : p x ≡ false) where
  any-last : (xs : List X) → list_any p (xs ++ x ∷ []) ≡ list_any p xs
  any-last [] = ap (λ b. b || false) fails
  any-last (y ∷ ys) = ap (λ b. p y || b) (any-last ys)

  index-last : (xs : List X) → list_any p xs ≡ true → position_or_len p (xs ++ x ∷ []) ≡ position_or_len p xs
  index-last [] e = absurd (cc)
  index-last (y ∷ ys) e =
      elim (p y) as (λ b. (b || list_any p ys) ≡ true → cond (not b) (1 + position_or_len p (ys ++ x ∷ [])) 0 ≡ cond (not b) (1 + position_or_len p ys) 0) [
        | true ↦ λ _. refl
        | false ↦ λ rest. ap (λ n. 1 + n) (index-last ys rest)
      ] e

  pub position-last : (xs : List X) → position p (xs ++ x ∷ []) ≡ position p xs
  position-last xs =
      ap (λ b. cond b (Some (position_or_len p (xs ++ x ∷ []))) None) (sym (any_at p (xs ++ x ∷ [])) ∙ any-last xs)
      ∙ (elim (list_any p xs) as (λ b. list_any p xs ≡ b → cond b (Some (position_or_len p (xs ++ x ∷ []))) None ≡ cond b (Some (position_or_len p xs)) None) [
        | true ↦ λ e. ap (λ n. Some n) (index-last xs e)
        | false ↦ λ _. refl
      ] refl
      ∙ ap (λ b. cond b (Some (position_or_len p xs)) None) (any_at p xs))

module _ {X : Type 0} (like : X → X → Bool) (x : X) where
  pub put_at : (xs : List X) (i : ℕ) → position (like x) xs ≡ Some i → upsert like x xs ≡ set xs i x
  put_at xs i e = upsert-some like x xs (any-some (like x) xs i e) ∙ ap (λ k. set xs k x) (index-some (like x) xs i e)

  pub put_new : (xs : List X) → position (like x) xs ≡ None → upsert like x xs ≡ xs ++ x ∷ []
  put_new xs e = upsert-none like x xs (any-none (like x) xs e)

module _ {X Y : Type 0} (f : X → Y) (p : Y → Bool) where
  index-map : (xs : List X) → position_or_len p (map f xs) ≡ position_or_len (λ x. p (f x)) xs
  index-map [] = refl
  index-map (y ∷ ys) = ap (λ n. cond (not (p (f y))) (1 + n) 0) (index-map ys)

  -- the index in a list of what is reported of each element
  pub position-map : (xs : List X) → position p (map f xs) ≡ position (λ x. p (f x)) xs
  position-map xs =
      ap (λ n. cond (ltb n (length (map f xs))) (Some n) None) (index-map xs)
      ∙ ap (λ m. cond (ltb (position_or_len (λ x. p (f x)) xs) m) (Some (position_or_len (λ x. p (f x)) xs)) None) (length-map xs f)

-- a count of what passes, by what is reported of each element
module _ {X Y : Type 0} (f : X → Y) (q : X → Bool) (p : Y → Bool) (same : (x : X) → q x ≡ p (f x)) where
  pub count_mapped : (xs : List X) → count_by q xs ≡ count_by p (map f xs)
  count_mapped [] = refl
  count_mapped (x ∷ xs) =
      sum_by-cons (λ y. cond (q y) 1 0) x xs
      ∙ (ap (λ b. cond b 1 0 + count_by q xs) (same x)
      ∙ (ap (λ n. cond (p (f x)) 1 0 + n) (count_mapped xs) ∙ sym (sum_by-cons (λ y. cond (p y) 1 0) (f x) (map f xs))))

-- a count by two tests that agree on each element
pub count_alike : {X : Type 0} (p q : X → Bool) (xs : List X) → AllByRecursion (λ x. p x ≡ q x) xs → count_by p xs ≡ count_by q xs
count_alike p q [] all = refl
count_alike p q (x ∷ xs) all =
    sum_by-cons (λ y. cond (p y) 1 0) x xs
    ∙ (ap (λ b. cond b 1 0 + count_by p xs) all.0
    ∙ (ap (λ n. cond (q x) 1 0 + n) (count_alike p q xs all.1) ∙ sym (sum_by-cons (λ y. cond (q y) 1 0) x xs)))

-- what is reported of each element, where one is put in
module _ {X Y : Type 0} (f : X → Y) (like : Y → Y → Bool) (x : X) where
  pub put_map_at : (xs : List X) (i : ℕ) → position (λ y. like (f x) (f y)) xs ≡ Some i → map f (set xs i x) ≡ upsert like (f x) (map f xs)
  put_map_at xs i e = map-set f xs i x ∙ sym (put_at like (f x) (map f xs) i (position-map f (like (f x)) xs ∙ e))

  pub put_map_new : (xs : List X) → position (λ y. like (f x) (f y)) xs ≡ None → map f (xs ++ x ∷ []) ≡ upsert like (f x) (map f xs)
  put_map_new xs e = map-append f xs (x ∷ []) ∙ sym (put_new like (f x) (map f xs) (position-map f (like (f x)) xs ∙ e))
