-- The words on the lists of a state, as code that looks an index up and then writes or pushes meets them.
use Rattle.std.proofs.Common.{◌≡◌, ◌+◌, Bool, true, false, cond, not, ◌||◌, Some, None, List, [], ◌∷◌, ◌++◌, refl, sym, ap, ◌∙◌}
use Rattle.std.specs.Prelude.{find, slice_set, IsPermutation}
use Rattle.std.specs.List.{list_any, position_or_len, IsDistinct, AllByRecursion}
use Rattle.std.specs.Cmp.{IsEquivalence}
use Rattle.std.specs.Ordering.{is_gt}
use Rattle.std.specs.declared.cmp.Ordering.{Ordering}
use Rattle.std.proofs.lemmas.List.Sorted.{IsPermutation-refl, IsPermutation-cons, IsPermutation-trans}
use Rattle.std.proofs.lemmas.Map.Keys.{IsDistinct-head, IsDistinct-tail, IsDistinct-cons}
use Rattle.std.proofs.Math.Numerals.{one-add}
use Rattle.am_model.proofs.lists.Exchanges.{two_exchanged}
use Rattle.am_model.specs.Lists.{upsert, put_in_order, in_order}

module _ {X : Type 0} (like : X → X → Bool) (x : X) where
  -- no element is like it: it is added
  pub upsert-none : (xs : List X) → list_any (like x) xs ≡ false → upsert like x xs ≡ xs ++ x ∷ []
  upsert-none [] h = refl
  upsert-none (y ∷ ys) h =
      elim (like x y) as (λ b. (b || list_any (like x) ys) ≡ false → cond b (x ∷ ys) (y ∷ upsert like x ys) ≡ y ∷ (ys ++ x ∷ [])) [
        | true ↦ λ e. absurd (cc)
        | false ↦ λ e. ap (λ zs. y ∷ zs) (upsert-none ys e)
      ] h

  -- some element is like it: the first of these is replaced
  pub upsert-some : (xs : List X) → list_any (like x) xs ≡ true → upsert like x xs ≡ slice_set xs (position_or_len (like x) xs) x
  upsert-some [] h = absurd (cc)
  upsert-some (y ∷ ys) h =
      elim (like x y) as (λ b. (b || list_any (like x) ys) ≡ true → cond b (x ∷ ys) (y ∷ upsert like x ys) ≡ slice_set (y ∷ ys) (cond (not b) (1 + position_or_len (like x) ys) 0) x) [
        | true ↦ λ e. refl
        | false ↦ λ e. ap (λ zs. y ∷ zs) (upsert-some ys e) ∙ ap (λ n. slice_set (y ∷ ys) n x) (sym (one-add (position_or_len (like x) ys)))
      ] h

  -- it is found where it was put
  pub find-upsert : (xs : List X) → like x x ≡ true → find (like x) (upsert like x xs) ≡ Some x
  find-upsert [] h = ap (λ b. cond b (Some x) None) h
  find-upsert (y ∷ ys) h =
      elim (like x y) as (λ b. like x y ≡ b → find (like x) (cond b (x ∷ ys) (y ∷ upsert like x ys)) ≡ Some x) [
        | true ↦ λ e. ap (λ b. cond b (Some x) (find (like x) ys)) h
        | false ↦ λ e. ap (λ b. cond b (Some y) (find (like x) (upsert like x ys))) e ∙ find-upsert ys h
      ] refl

  -- a test that what is put and what it replaces don't pass finds what it found
  pub find-put_in_other : (test : X → Bool) (xs : List X) → test x ≡ false → ((y : X) → like x y ≡ true → test y ≡ false) → find test (upsert like x xs) ≡ find test xs
  find-put_in_other test [] h apart = ap (λ b. cond b (Some x) None) h
  find-put_in_other test (y ∷ ys) h apart =
      elim (like x y) as (λ b. like x y ≡ b → find test (cond b (x ∷ ys) (y ∷ upsert like x ys)) ≡ find test (y ∷ ys)) [
        | true ↦ λ e. ap (λ b. cond b (Some x) (find test ys)) h ∙ sym (ap (λ b. cond b (Some y) (find test ys)) (apart y e))
        | false ↦ λ e. ap (λ o. cond (test y) (Some y) o) (find-put_in_other test ys h apart)
      ] refl

  -- what holds of it and of each element holds of each after it is put in
  pub all-upsert : (P : X → Type 0) (xs : List X) → P x → AllByRecursion P xs → AllByRecursion P (upsert like x xs)
  all-upsert P [] h all = (h, tt)
  all-upsert P (y ∷ ys) h all =
      elim (like x y) as (λ b. AllByRecursion P (cond b (x ∷ ys) (y ∷ upsert like x ys))) [
        | true ↦ (h, all.1)
        | false ↦ (all.0, all-upsert P ys h all.1)
      ]

-- elements that differ stay so
module _ {X : Type 0} (like : X → X → Bool) (laws : IsEquivalence like) (x : X) where
  replaced : (y : X) (ys : List X) → like x y ≡ true → AllByRecursion (λ z. like y z ≡ false) ys → AllByRecursion (λ z. like x z ≡ false) ys
  replaced y [] e all = tt
  replaced y (z ∷ zs) e all = (laws.congr x y z e ∙ all.0, replaced y zs e all.1)

  pub IsDistinct-upsert : (xs : List X) → IsDistinct like xs → IsDistinct like (upsert like x xs)
  IsDistinct-upsert [] h = IsDistinct-cons like x [] tt h
  IsDistinct-upsert (y ∷ ys) h =
      let head = IsDistinct-head like y ys h in
      let tail = IsDistinct-tail like y ys h in
      elim (like x y) as (λ b. like x y ≡ b → IsDistinct like (cond b (x ∷ ys) (y ∷ upsert like x ys))) [
        | true ↦ λ e. IsDistinct-cons like x ys (replaced y ys e head) tail
        | false ↦ λ e. IsDistinct-cons like y (upsert like x ys) (all-upsert like x (λ z. like y z ≡ false) ys (laws.symm y x ∙ e) head) (IsDistinct-upsert ys tail)
      ] refl

-- a list in order has the elements of the list
module _ {X : Type 0} (cmp : X → X → Ordering) where
  pub put_in_order-moves : (x : X) (xs : List X) → IsPermutation (x ∷ xs) (put_in_order cmp x xs)
  put_in_order-moves x [] = IsPermutation-refl (x ∷ [])
  put_in_order-moves x (y ∷ ys) =
      elim (is_gt (cmp x y)) as (λ b. IsPermutation (x ∷ y ∷ ys) (cond b (y ∷ put_in_order cmp x ys) (x ∷ y ∷ ys))) [
        | true ↦ IsPermutation-trans (x ∷ y ∷ ys) (y ∷ x ∷ ys) (y ∷ put_in_order cmp x ys) (two_exchanged x y ys) (IsPermutation-cons y (x ∷ ys) (put_in_order cmp x ys) (put_in_order-moves x ys))
        | false ↦ IsPermutation-refl (x ∷ y ∷ ys)
      ]

  pub in_order-moves : (xs : List X) → IsPermutation xs (in_order cmp xs)
  in_order-moves [] = IsPermutation-refl []
  in_order-moves (x ∷ xs) =
      IsPermutation-trans (x ∷ xs) (x ∷ in_order cmp xs) (put_in_order cmp x (in_order cmp xs)) (IsPermutation-cons x xs (in_order cmp xs) (in_order-moves xs)) (put_in_order-moves x (in_order cmp xs))
