-- Lists of the same elements, sorted by an order in which only equal ones tie, are one list.
use denote.Param.Members.{Mut}
use Rattle.std.proofs.Common.{◌≡◌, ◌∙◌, ◌+◌, ◌<◌, ℕ, suc, Bool, true, false, cond, List, [], ◌∷◌, length, map, get_or, count_by, refl, sym, ap, subst, arith}
use Rattle.std.specs.Prelude.{IsPermutation, IsSorted, IsSortedBy, ◌↔◌}
use Rattle.std.specs.Borrow.{Bor}
use Rattle.std.specs.Cmp.{IsTotalOrder, IsStrictWeakOrder}
use Rattle.std.specs.Fn.{Called, ComparesAs}
use Rattle.std.specs.Ordering.{is_lt, ordering_reverse}
use Rattle.std.specs.declared.cmp.Ordering.{Ordering}
use Rattle.std.specs.declared.cmp.Ordering.TheVariants.{Less, Equal, Greater}
use Rattle.std.proofs.lemmas.Bool.{false≢true}
use Rattle.std.proofs.lemmas.Fn.{always_returns_same}
use Rattle.std.proofs.lemmas.List.{get_or-map, length-map}
use Rattle.std.proofs.lemmas.List.Sorted.{IsPermutation-sym, IsPermutation-trans, ranks_by, sorted_far, sum_by-IsPermutation}
use Rattle.std.proofs.lemmas.List.Sums.{sum_by-cons}
use Rattle.std.proofs.lemmas.Map.Lookups.{CmpEqualImpliesEq}

-- neither is below the other
tied : (o : Ordering) → is_lt o ≡ false → is_lt (ordering_reverse o) ≡ false → o ≡ Equal
tied Less h k = absurd (false≢true (sym h))
tied Equal h k = refl
tied Greater h k = absurd (false≢true (sym k))

count_by-cons : {X : Type 0} (test : X → Bool) (x : X) (xs : List X) → count_by test (x ∷ xs) ≡ cond (test x) 1 0 + count_by test xs
count_by-cons test x xs = sum_by-cons (λ y. cond (test y) 1 0) x xs

-- what isn't counted fails the test
uncounted : (b : Bool) (n : ℕ) → cond b 1 0 + n ≡ 0 → b ≡ false
uncounted true n h = absurd (omega arith)
uncounted false n h = refl

module _ {X : Type 0} (cmp : X → X → Ordering) (order : IsTotalOrder cmp) where
  -- no element is counted as below z
  none_below : (z : X) (xs : List X) → ((k : ℕ) (d : X) → k < length xs → is_lt (cmp (get_or xs k d) z) ≡ false)
      → count_by (λ x. is_lt (cmp x z)) xs ≡ 0
  none_below z [] h = refl
  none_below z (x ∷ xs) h =
      count_by-cons (λ y. is_lt (cmp y z)) x xs
      ∙ ap (λ b. cond b 1 0 + count_by (λ y. is_lt (cmp y z)) xs) (h 0 x (omega arith))
      ∙ ap (λ n. 0 + n) (none_below z xs (λ k d l. h (suc k) d (omega arith)))

  -- nor below the first of a sorted list
  none_below_first : (x : X) (xs : List X) → IsSorted cmp (x ∷ xs) → count_by (λ y. is_lt (cmp y x)) (x ∷ xs) ≡ 0
  none_below_first x xs sorted =
      none_below x (x ∷ xs)
      (λ k d l. sorted_far (λ a b. is_lt (cmp a b)) (ranks_by order (λ a. a)) (x ∷ xs) sorted 0 k d (omega arith) l)

  sorted_tail : (x : X) (xs : List X) → IsSorted cmp (x ∷ xs) → IsSorted cmp xs
  sorted_tail x xs sorted k d low high =
      let e : suc k + 1 ≡ suc (k + 1) = omega arith in
      subst (λ j. is_lt (cmp (get_or (x ∷ xs) j d) (get_or xs k d)) ≡ false) e (sorted (suc k) d (omega arith) (omega arith))

  -- the first elements of sorted lists with as many elements of each kind
  first_alike : CmpEqualImpliesEq cmp → (x y : X) (xs ys : List X) → IsSorted cmp (x ∷ xs) → IsSorted cmp (y ∷ ys)
      → ((test : X → Bool) → count_by test (x ∷ xs) ≡ count_by test (y ∷ ys)) → x ≡ y
  first_alike exact x y xs ys u v same = exact x y (tied (cmp x y) under (ap is_lt (sym (order.antisymm y x)) ∙ above))
    where
      above : is_lt (cmp y x) ≡ false
      above = uncounted (is_lt (cmp y x)) (count_by (λ z. is_lt (cmp z x)) ys)
          (sym (count_by-cons (λ z. is_lt (cmp z x)) y ys) ∙ sym (same (λ z. is_lt (cmp z x))) ∙ none_below_first x xs u)

      under : is_lt (cmp x y) ≡ false
      under = uncounted (is_lt (cmp x y)) (count_by (λ z. is_lt (cmp z y)) xs)
          (sym (count_by-cons (λ z. is_lt (cmp z y)) x xs) ∙ same (λ z. is_lt (cmp z y)) ∙ none_below_first y ys v)

  -- and what is left of them
  left_alike : (x y : X) (xs ys : List X) → x ≡ y → ((test : X → Bool) → count_by test (x ∷ xs) ≡ count_by test (y ∷ ys))
      → (test : X → Bool) → count_by test xs ≡ count_by test ys
  left_alike x y xs ys e same test =
      let h : cond (test x) 1 0 + count_by test xs ≡ cond (test x) 1 0 + count_by test ys =
      sym (count_by-cons test x xs) ∙ same test ∙ count_by-cons test y ys ∙ ap (λ z. cond (test z) 1 0 + count_by test ys) (sym e) in
      omega arith

  -- sorted lists with as many elements of each kind
  pub alike_sorted : CmpEqualImpliesEq cmp → (xs ys : List X) → IsSorted cmp xs → IsSorted cmp ys
      → ((test : X → Bool) → count_by test xs ≡ count_by test ys) → xs ≡ ys
  alike_sorted exact [] [] u v same = refl
  alike_sorted exact [] (y ∷ ys) u v same =
      let h : 0 ≡ 1 + count_by (λ z. true) ys = same (λ z. true) ∙ count_by-cons (λ z. true) y ys in absurd (omega arith)
  alike_sorted exact (x ∷ xs) [] u v same =
      let h : 1 + count_by (λ z. true) xs ≡ 0 = sym (count_by-cons (λ z. true) x xs) ∙ same (λ z. true) in absurd (omega arith)
  alike_sorted exact (x ∷ xs) (y ∷ ys) u v same =
      let first : x ≡ y = first_alike exact x y xs ys u v same in
      let rest : xs ≡ ys = alike_sorted exact xs ys (sorted_tail x xs u) (sorted_tail y ys v) (left_alike x y xs ys first same) in
      λ i. first i ∷ rest i

  -- lists are permutations of each other exactly if they are one list once they are sorted
  pub same_sorted : CmpEqualImpliesEq cmp → (xs ys us vs : List X) → IsPermutation xs us → IsPermutation ys vs
      → IsSorted cmp us → IsSorted cmp vs → (us ≡ vs) ↔ IsPermutation xs ys
  same_sorted exact xs ys us vs one other u v = (
    λ e. IsPermutation-trans xs us ys one (subst (λ l. IsPermutation l ys) (sym e) (IsPermutation-sym ys vs other)),
    λ p. alike_sorted exact us vs u v (λ test. counted test xs us one ∙ sym (counted test xs ys p) ∙ sym (counted test ys vs other)),
  )
    where
      counted : (test : X → Bool) (before after : List X) → IsPermutation before after → count_by test after ≡ count_by test before
      counted test before after p = sum_by-IsPermutation (λ z. cond (test z) 1 0) before after p

  -- what a list is sorted by, the list of its keys is
  sorted_keys : {Y : Type 0} (key : Y → X) (ys : List Y) → IsSortedBy (λ a b. is_lt (cmp (key a) (key b))) ys → IsSorted cmp (map key ys)
  sorted_keys key [] sorted k d low high = absurd (omega arith)
  sorted_keys {Y = Y} key (y ∷ ys) sorted k d low high =
      let all : List Y = y ∷ ys in
      let count : length (map key all) ≡ length all = length-map all key in
      let before : get_or (map key all) k d ≡ key (get_or all k y) = get_or-map key all k y d (omega arith) in
      let behind : get_or (map key all) (k + 1) d ≡ key (get_or all (k + 1) y) = get_or-map key all (k + 1) y d (omega arith) in
      (λ i. is_lt (cmp (behind i) (before i))) ∙ sorted k y low (omega arith)

  -- from the clause of `sort_unstable_by`, where each call of the closure answers by the keys
  pub sorted_by_keys : {Y F : Type 0} {g : Mut F (Bor Y × (Bor Y × Unit {0})) Ordering} {f : F} (key : Y → X) (ys : List Y)
      → ((lt : Y → Y → Bool) → IsStrictWeakOrder lt → ComparesAs g lt f → IsSortedBy lt ys)
      → ((a : Bor Y × (Bor Y × Unit {0})) (r : Ordering) (f' : F) → Called g f a r f' → (r ≡ cmp (key a.0.now) (key a.1.0.now)) × (f' ≡ f))
      → IsSorted cmp (map key ys)
  sorted_by_keys {g = g} {f = f} key ys sorted answers =
      sorted_keys key ys
      (sorted (λ a b. is_lt (cmp (key a) (key b))) (ranks_by order key)
      (always_returns_same g (λ a r. is_lt r ≡ is_lt (cmp (key a.0.now) (key a.1.0.now))) f (λ a r f' k. (ap is_lt (answers a r f' k).0, (answers a r f' k).1))))

-- lists of as many elements whose keys are equal at each index
pub same_keys : {X Y : Type 0} (key : X → Y) (xs ys : List X) → length xs ≡ length ys
    → ((k : ℕ) (d : X) → k < length xs → key (get_or xs k d) ≡ key (get_or ys k d)) → map key xs ≡ map key ys
same_keys key [] [] count same = refl
same_keys key [] (y ∷ ys) count same = absurd (omega arith)
same_keys key (x ∷ xs) [] count same = absurd (omega arith)
same_keys key (x ∷ xs) (y ∷ ys) count same =
    λ i. same 0 x (omega arith) i ∷ same_keys key xs ys (omega arith) (λ k d l. same (suc k) d (omega arith)) i

-- and the other way round
pub keys_there : {X Y : Type 0} (key : X → Y) (xs ys : List X) (k : ℕ) (d : X) → map key xs ≡ map key ys → k < length xs → k < length ys
    → key (get_or xs k d) ≡ key (get_or ys k d)
keys_there {X = X} {Y = Y} key xs ys k d same one other =
    sym (get_or-map key xs k d (key d) one) ∙ ap (λ (l : List Y). get_or l k (key d)) same ∙ get_or-map key ys k d (key d) other
