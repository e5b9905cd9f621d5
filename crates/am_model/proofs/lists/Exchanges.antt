-- What a list and the same elements in another order have in common.
use Rattle.std.proofs.Common.{◌≡◌, ℕ, zero, suc, ◌<◌, Bool, true, false, cond, not, Option, Some, List, [], ◌∷◌, length, get_or, set, filter, find, count_by, refl, sym, ap, ◌∙◌, arith}
use Rattle.std.specs.Prelude.{IsPermutation}
use Rattle.std.specs.Cmp.{IsEquivalence}
use Rattle.std.specs.List.{swap, IsDistinct}
use Rattle.std.proofs.lemmas.Bool.{false≢true}
use Rattle.std.proofs.lemmas.List.Sorted.{IsPermutation-refl, IsPermutation-cons, IsPermutation-trans, IsPermutation-keeps, sum_by-IsPermutation}
use Rattle.std.proofs.lemmas.Map.Keys.{IsDistinct-head, IsDistinct-tail, IsDistinct-IsPermutation}
use Rattle.am_model.specs.Lists.{upsert, without}

-- a relation of lists that an exchange of the first two elements keeps, and one more element in front, holds of each two lists that are permutations of each other
module _ {X : Type 0} (R : List X → List X → Type 0) (same : (xs : List X) → R xs xs) (more : (x : X) (xs ys : List X) → R xs ys → R (x ∷ xs) (x ∷ ys)) (two : (x y : X) (xs : List X) → R (x ∷ y ∷ xs) (y ∷ x ∷ xs)) (chain : (xs ys zs : List X) → R xs ys → R ys zs → R xs zs) where
  -- the first element and a later one change indexes
  first_and : (x : X) (xs : List X) (j : ℕ) (d : X) → j < length xs → R (x ∷ xs) (get_or xs j d ∷ set xs j x)
  first_and x [] j d h = absurd (omega arith)
  first_and x (y ∷ ys) zero d h = two x y ys
  first_and x (y ∷ ys) (suc j) d h =
      let z = get_or ys j d in
      let inner : R (y ∷ x ∷ ys) (y ∷ z ∷ set ys j x) = more y (x ∷ ys) (z ∷ set ys j x) (first_and x ys j d (omega arith)) in
      chain (x ∷ y ∷ ys) (y ∷ x ∷ ys) (z ∷ y ∷ set ys j x) (two x y ys) (chain (y ∷ x ∷ ys) (y ∷ z ∷ set ys j x) (z ∷ y ∷ set ys j x) inner (two y z (set ys j x)))

  any_two : (xs : List X) (i j : ℕ) (d : X) → i < length xs → j < length xs → R xs (set (set xs i (get_or xs j d)) j (get_or xs i d))
  any_two [] i j d p q = absurd (omega arith)
  any_two (x ∷ xs) zero zero d p q = same (x ∷ xs)
  any_two (x ∷ xs) zero (suc j) d p q = first_and x xs j d (omega arith)
  any_two (x ∷ xs) (suc i) zero d p q = first_and x xs i d (omega arith)
  any_two (x ∷ xs) (suc i) (suc j) d p q = more x xs (set (set xs i (get_or xs j d)) j (get_or xs i d)) (any_two xs i j d (omega arith) (omega arith))

  swapped : (xs : List X) (i j : ℕ) → i < length xs → j < length xs → R xs (swap xs i j)
  swapped [] i j p q = same []
  swapped (d ∷ ys) i j p q = any_two (d ∷ ys) i j d p q

  pub by_exchanges : (xs ys : List X) → IsPermutation xs ys → R xs ys
  by_exchanges xs ys p = IsPermutation-keeps xs (R xs) (same xs) (λ l i j a b h. chain xs l (swap l i j) h (swapped l i j a b)) ys p

pub two_exchanged : {X : Type 0} (x y : X) (xs : List X) → IsPermutation (x ∷ y ∷ xs) (y ∷ x ∷ xs)
two_exchanged x y xs = record { moves = (0, 1) ∷ []; below = (omega arith, omega arith, tt); is = refl }

-- ---- what passes a test

module _ {X : Type 0} (test : X → Bool) where
  pub filter-permutation : (xs ys : List X) → IsPermutation xs ys → IsPermutation (filter test xs) (filter test ys)
  filter-permutation = by_exchanges (λ xs ys. IsPermutation (filter test xs) (filter test ys)) (λ xs. IsPermutation-refl (filter test xs)) more two (λ xs ys zs p q. IsPermutation-trans (filter test xs) (filter test ys) (filter test zs) p q)
    where
      more : (x : X) (xs ys : List X) → IsPermutation (filter test xs) (filter test ys) → IsPermutation (filter test (x ∷ xs)) (filter test (x ∷ ys))
      more x xs ys p =
          elim (test x) as (λ b. IsPermutation (cond b (x ∷ filter test xs) (filter test xs)) (cond b (x ∷ filter test ys) (filter test ys))) [
            | true ↦ IsPermutation-cons x (filter test xs) (filter test ys) p
            | false ↦ p
          ]

      both : (a b : Bool) (x y : X) (zs : List X) → IsPermutation (cond a (x ∷ cond b (y ∷ zs) zs) (cond b (y ∷ zs) zs)) (cond b (y ∷ cond a (x ∷ zs) zs) (cond a (x ∷ zs) zs))
      both true true x y zs = two_exchanged x y zs
      both true false x y zs = IsPermutation-refl (x ∷ zs)
      both false true x y zs = IsPermutation-refl (y ∷ zs)
      both false false x y zs = IsPermutation-refl zs

      two : (x y : X) (zs : List X) → IsPermutation (filter test (x ∷ y ∷ zs)) (filter test (y ∷ x ∷ zs))
      two x y zs = both (test x) (test y) x y (filter test zs)

  pub count_by-permutation : (xs ys : List X) → IsPermutation xs ys → count_by test ys ≡ count_by test xs
  count_by-permutation xs ys p = sum_by-IsPermutation (λ x. cond (test x) 1 0) xs ys p

pub without-permutation : {X : Type 0} (test : X → Bool) (xs ys : List X) → IsPermutation xs ys → IsPermutation (without test xs) (without test ys)
without-permutation test = filter-permutation (λ x. not (test x))

-- ---- lists of which no two elements are alike

module _ {X : Type 0} (like : X → X → Bool) (laws : IsEquivalence like) where
  pub IsDistinct-permutation : (xs ys : List X) → IsPermutation xs ys → IsDistinct like xs → IsDistinct like ys
  IsDistinct-permutation xs ys p h = IsDistinct-IsPermutation like laws.symm xs ys p h

  -- the first two elements
  pub first_two_apart : (x y : X) (xs : List X) → IsDistinct like (x ∷ y ∷ xs) → like x y ≡ false
  first_two_apart x y xs h = (IsDistinct-head like x (y ∷ xs) h).0

  -- what an exchange keeps of distinct lists, permutations keep
  module _ (R : List X → List X → Type 0) (same : (xs : List X) → R xs xs) (more : (x : X) (xs ys : List X) → IsPermutation xs ys → R xs ys → R (x ∷ xs) (x ∷ ys)) (two : (x y : X) (xs : List X) → like x y ≡ false → R (x ∷ y ∷ xs) (y ∷ x ∷ xs)) (chain : (xs ys zs : List X) → R xs ys → R ys zs → R xs zs) where
    pub by_exchanges_distinct : (xs ys : List X) → IsPermutation xs ys → IsDistinct like xs → R xs ys
    by_exchanges_distinct xs ys p h = (by_exchanges (λ us vs. IsPermutation us vs × (IsDistinct like us → R us vs))
        (λ us. (IsPermutation-refl us, λ _. same us))
        (λ x us vs r. (IsPermutation-cons x us vs r.0, λ d. more x us vs r.0 (r.1 (IsDistinct-tail like x us d))))
        (λ x y us. (two_exchanged x y us, λ d. two x y us (first_two_apart x y us d)))
        (λ us vs ws r s. (IsPermutation-trans us vs ws r.0 s.0, λ d. chain us vs ws (r.1 d) (s.1 (IsDistinct-permutation us vs r.0 d))))
        xs ys p).1 h

  -- a test that only elements that are alike pass together finds the same
  pub find-permutation : (test : X → Bool) → ((x y : X) → test x ≡ true → test y ≡ true → like x y ≡ true) → (xs ys : List X) → IsPermutation xs ys → IsDistinct like xs → find test xs ≡ find test ys
  find-permutation test alone = by_exchanges_distinct (λ xs ys. find test xs ≡ find test ys) (λ xs. refl)
      (λ x xs ys p e. ap (λ o. cond (test x) (Some x) o) e)
      (λ x y xs apart. either (test x) (test y) x y (find test xs) (λ a b. false≢true (sym apart ∙ alone x y a b)))
      (λ xs ys zs e f. e ∙ f)
    where
      either : (a b : Bool) (x y : X) (o : Option X) → (a ≡ true → b ≡ true → ⊥) → cond a (Some x) (cond b (Some y) o) ≡ cond b (Some y) (cond a (Some x) o)
      either true true x y o h = absurd (h refl refl)
      either true false x y o h = refl
      either false true x y o h = refl
      either false false x y o h = refl

  -- an element put in the place of the one that it is like, or added
  pub upsert-permutation : (x : X) (xs ys : List X) → IsPermutation xs ys → IsDistinct like xs → IsPermutation (upsert like x xs) (upsert like x ys)
  upsert-permutation x = by_exchanges_distinct (λ xs ys. IsPermutation (upsert like x xs) (upsert like x ys)) (λ xs. IsPermutation-refl (upsert like x xs))
      (λ y xs ys p r. one (like x y) y xs ys p r)
      (λ y z xs apart. both (like x y) (like x z) y z xs (λ a b. false≢true (sym apart ∙ sym (laws.congr x y z a) ∙ b)))
      (λ xs ys zs p q. IsPermutation-trans (upsert like x xs) (upsert like x ys) (upsert like x zs) p q)
    where
      one : (b : Bool) (y : X) (xs ys : List X) → IsPermutation xs ys → IsPermutation (upsert like x xs) (upsert like x ys) → IsPermutation (cond b (x ∷ xs) (y ∷ upsert like x xs)) (cond b (x ∷ ys) (y ∷ upsert like x ys))
      one true y xs ys p r = IsPermutation-cons x xs ys p
      one false y xs ys p r = IsPermutation-cons y (upsert like x xs) (upsert like x ys) r

      both : (a b : Bool) (y z : X) (xs : List X) → (a ≡ true → b ≡ true → ⊥) → IsPermutation (cond a (x ∷ z ∷ xs) (y ∷ cond b (x ∷ xs) (z ∷ upsert like x xs))) (cond b (x ∷ y ∷ xs) (z ∷ cond a (x ∷ xs) (y ∷ upsert like x xs)))
      both true true y z xs h = absurd (h refl refl)
      both true false y z xs h = two_exchanged x z xs
      both false true y z xs h = two_exchanged y x xs
      both false false y z xs h = two_exchanged y z (upsert like x xs)
