-- Lists in order: where no two elements tie there is one such list, whichever sort made it, and it rises strictly.
use denote.Param.Members.{Mut}
use Rattle.std.proofs.Common.{◌≡◌, suc, ◌+◌, Bool, true, false, cond, not, ◌&&◌, List, [], ◌∷◌, length, map, get_or, refl, sym, ap, ◌∙◌, subst, arith}
use Rattle.std.specs.Prelude.{IsPermutation, IsSorted, IsSortedBy}
use Rattle.std.specs.Borrow.{Bor}
use Rattle.std.specs.Cmp.{IsTotalOrder, IsStrictWeakOrder, upto, eq_by_cmp_equiv}
use Rattle.std.specs.Fn.{Called, ComparesAs}
use Rattle.std.specs.List.{list_all, AllByRecursion, IsDistinct}
use Rattle.std.specs.Ordering.{is_lt, is_eq, is_gt, eq_by_cmp, ordering_reverse}
use Rattle.std.specs.declared.cmp.Ordering.{Ordering}
use Rattle.std.specs.declared.cmp.Ordering.TheVariants.{Less, Equal, Greater}
use Rattle.std.proofs.lemmas.Bool.{false≢true, and_from, and_parts}
use Rattle.std.proofs.lemmas.Fn.{always_returns_same}
use Rattle.std.proofs.lemmas.List.Folds.{list_all-map}
use Rattle.std.proofs.lemmas.List.Sorted.{IsPermutation-cons, length_permutation, ranks_by}
use Rattle.std.proofs.lemmas.Map.Keys.{IsDistinct-head, IsDistinct-tail}
use Rattle.am_nflog.specs.Members.{is_ascending}
use Rattle.am_model.proofs.lists.Words.{in_order-moves}
use Rattle.am_model.specs.Lists.{put_in_order, in_order}
use Rattle.am_model.proofs.lists.Exchanges.{by_exchanges_distinct, IsDistinct-permutation}

turned : (o : Ordering) → is_gt (ordering_reverse o) ≡ is_lt o
turned Less = refl
turned Equal = refl
turned Greater = refl

neither : (o : Ordering) → is_gt o ≡ false → is_eq o ≡ false → is_lt o ≡ true
neither Less g e = refl
neither Equal g e = absurd (false≢true (sym e))
neither Greater g e = absurd (false≢true (sym g))

module _ {X : Type 0} (cmp : X → X → Ordering) (order : IsTotalOrder cmp) where
  -- above one way is below the other way
  gt-lt : (x y : X) → is_gt (cmp x y) ≡ is_lt (cmp y x)
  gt-lt x y = ap is_gt (order.antisymm x y) ∙ turned (cmp y x)

  -- what is above z, and z isn't below y: above y
  above : (x y z : X) → is_gt (cmp x z) ≡ true → is_gt (cmp y z) ≡ false → is_gt (cmp x y) ≡ true
  above x y z over under = by (is_gt (cmp x y)) refl
    where
      by : (b : Bool) → is_gt (cmp x y) ≡ b → b ≡ true
      by true e = refl
      by false e = absurd (false≢true (sym (upto order x y z e under) ∙ over))

  -- of two that don't tie, one is above the other
  other_way : (x y : X) → is_eq (cmp x y) ≡ false → is_gt (cmp y x) ≡ not (is_gt (cmp x y))
  other_way x y apart = gt-lt y x ∙ by (cmp x y) apart
    where
      by : (o : Ordering) → is_eq o ≡ false → is_lt o ≡ not (is_gt o)
      by Less e = refl
      by Equal e = absurd (false≢true (sym e))
      by Greater e = refl

  -- ---- one list in order

  -- two that don't tie can be put in either way round
  two_placed : (x y : X) → is_eq (cmp x y) ≡ false → (zs : List X) → put_in_order cmp x (put_in_order cmp y zs) ≡ put_in_order cmp y (put_in_order cmp x zs)
  two_placed x y apart [] = by (is_gt (cmp x y)) (is_gt (cmp y x)) (other_way x y apart)
    where
      by : (a b : Bool) → b ≡ not a → cond a (y ∷ x ∷ []) (x ∷ y ∷ []) ≡ cond b (x ∷ y ∷ []) (y ∷ x ∷ [])
      by true true h = absurd (false≢true (sym h))
      by true false h = refl
      by false true h = refl
      by false false h = absurd (false≢true h)
  two_placed x y apart (z ∷ zs) = by (is_gt (cmp x z)) (is_gt (cmp y z)) refl refl (two_placed x y apart zs)
    where
      P : X → List X
      P w = put_in_order cmp w zs

      -- the first behind z, the second before it
      one : (v w : X) → is_gt (cmp v z) ≡ true → is_gt (cmp w z) ≡ false → put_in_order cmp v (w ∷ z ∷ zs) ≡ put_in_order cmp w (z ∷ put_in_order cmp v zs)
      one v w e f =
          ap (λ b. cond b (w ∷ put_in_order cmp v (z ∷ zs)) (v ∷ w ∷ z ∷ zs)) (above v w z e f)
          ∙ ap (λ b. w ∷ cond b (z ∷ put_in_order cmp v zs) (v ∷ z ∷ zs)) e
          ∙ sym (ap (λ b. cond b (z ∷ put_in_order cmp w (put_in_order cmp v zs)) (w ∷ z ∷ put_in_order cmp v zs)) f)

      front : (a b : Bool) → b ≡ not a → is_gt (cmp x z) ≡ false → is_gt (cmp y z) ≡ false
          → cond a (y ∷ put_in_order cmp x (z ∷ zs)) (x ∷ y ∷ z ∷ zs) ≡ cond b (x ∷ put_in_order cmp y (z ∷ zs)) (y ∷ x ∷ z ∷ zs)
      front true true h e f = absurd (false≢true (sym h))
      front true false h e f = ap (λ b. y ∷ cond b (z ∷ put_in_order cmp x zs) (x ∷ z ∷ zs)) e
      front false true h e f = sym (ap (λ b. x ∷ cond b (z ∷ put_in_order cmp y zs) (y ∷ z ∷ zs)) f)
      front false false h e f = absurd (false≢true h)

      by : (a b : Bool) → is_gt (cmp x z) ≡ a → is_gt (cmp y z) ≡ b → put_in_order cmp x (put_in_order cmp y zs) ≡ put_in_order cmp y (put_in_order cmp x zs)
          → put_in_order cmp x (cond b (z ∷ put_in_order cmp y zs) (y ∷ z ∷ zs)) ≡ put_in_order cmp y (cond a (z ∷ put_in_order cmp x zs) (x ∷ z ∷ zs))
      by true true e f rest =
          ap (λ b. cond b (z ∷ put_in_order cmp x (put_in_order cmp y zs)) (x ∷ z ∷ put_in_order cmp y zs)) e
          ∙ ap (λ l. z ∷ l) rest
          ∙ sym (ap (λ b. cond b (z ∷ put_in_order cmp y (put_in_order cmp x zs)) (y ∷ z ∷ put_in_order cmp x zs)) f)
      by true false e f rest = one x y e f
      by false true e f rest = sym (one y x f e)
      by false false e f rest = front (is_gt (cmp x y)) (is_gt (cmp y x)) (other_way x y apart) e f

  -- two lists of the same elements, of which no two tie, are one list in order
  pub in_order-permutation : (xs ys : List X) → IsPermutation xs ys → IsDistinct (eq_by_cmp cmp) xs → in_order cmp xs ≡ in_order cmp ys
  in_order-permutation = by_exchanges_distinct (eq_by_cmp cmp) (eq_by_cmp_equiv order) (λ xs ys. in_order cmp xs ≡ in_order cmp ys) (λ xs. refl)
      (λ x xs ys p e. ap (put_in_order cmp x) e)
      (λ x y xs apart. two_placed x y apart (in_order cmp xs))
      (λ xs ys zs e f. e ∙ f)

  sorted_tail : (x : X) (xs : List X) → IsSorted cmp (x ∷ xs) → IsSorted cmp xs
  sorted_tail x xs sorted k d low high =
      let e : suc k + 1 ≡ suc (k + 1) = omega arith in
      subst (λ j. is_lt (cmp (get_or (x ∷ xs) j d) (get_or xs k d)) ≡ false) e (sorted (suc k) d (omega arith) (omega arith))

  -- a sorted list is in order
  pub in_order-sorted : (xs : List X) → IsSorted cmp xs → in_order cmp xs ≡ xs
  in_order-sorted [] sorted = refl
  in_order-sorted (x ∷ []) sorted = refl
  in_order-sorted (x ∷ y ∷ ys) sorted =
      ap (put_in_order cmp x) (in_order-sorted (y ∷ ys) (sorted_tail x (y ∷ ys) sorted))
      ∙ ap (λ b. cond b (y ∷ put_in_order cmp x ys) (x ∷ y ∷ ys)) (gt-lt x y ∙ sorted 0 x (omega arith) (omega arith))

  -- what a sort of elements of which no two tie gives is their list in order
  pub sorted_is_in_order : (xs ys : List X) → IsPermutation xs ys → IsSorted cmp ys → IsDistinct (eq_by_cmp cmp) xs → ys ≡ in_order cmp xs
  sorted_is_in_order xs ys moved sorted apart = sym (in_order-sorted ys sorted) ∙ sym (in_order-permutation xs ys moved apart)

  -- from the clauses of `sort_unstable_by` and `sort_by`, where each call of the closure answers by the order
  pub sort_by_is_in_order : {F : Type 0} {g : Mut F (Bor X × (Bor X × Unit {0})) Ordering} {f : F} (xs ys : List X) → IsPermutation xs ys → ((lt : X → X → Bool) → IsStrictWeakOrder lt → ComparesAs g lt f → IsSortedBy lt ys)
      → ((a : Bor X × (Bor X × Unit {0})) (r : Ordering) (f' : F) → Called g f a r f' → (r ≡ cmp a.0.now a.1.0.now) × (f' ≡ f)) → IsDistinct (eq_by_cmp cmp) xs → ys ≡ in_order cmp xs
  sort_by_is_in_order {g = g} {f = f} xs ys moved sorted answers apart =
      sorted_is_in_order xs ys moved
      (sorted (λ x y. is_lt (cmp x y)) (ranks_by order (λ x. x)) (always_returns_same g (λ a r. is_lt r ≡ is_lt (cmp a.0.now a.1.0.now)) f (λ a r f' k. (ap is_lt (answers a r f' k).0, (answers a r f' k).1))))
      apart

  -- ---- it rises

  all-put : (test : X → Bool) (x : X) (zs : List X) → test x ≡ true → list_all test zs ≡ true → list_all test (put_in_order cmp x zs) ≡ true
  all-put test x [] e all = and_from (test x) true e refl
  all-put test x (z ∷ zs) e all =
      elim (is_gt (cmp x z)) as (λ b. list_all test (cond b (z ∷ put_in_order cmp x zs) (x ∷ z ∷ zs)) ≡ true) [
        | true ↦ and_from (test z) (list_all test (put_in_order cmp x zs)) (and_parts (test z) (list_all test zs) all).0 (all-put test x zs e (and_parts (test z) (list_all test zs) all).1)
        | false ↦ and_from (test x) (list_all test (z ∷ zs)) e all
      ]

  -- what is below z is below all that z is below
  all_below : (x z : X) → is_lt (cmp x z) ≡ true → (ws : List X) → list_all (λ w. is_lt (cmp z w)) ws ≡ true → list_all (λ w. is_lt (cmp x w)) ws ≡ true
  all_below x z e [] all = refl
  all_below x z e (w ∷ ws) all =
      and_from (is_lt (cmp x w)) (list_all (λ v. is_lt (cmp x v)) ws)
      (below (cmp x z) (cmp z w) refl refl e (and_parts (is_lt (cmp z w)) (list_all (λ v. is_lt (cmp z v)) ws) all).0)
      (all_below x z e ws (and_parts (is_lt (cmp z w)) (list_all (λ v. is_lt (cmp z v)) ws) all).1)
    where
      below : (o p : Ordering) → cmp x z ≡ o → cmp z w ≡ p → is_lt o ≡ true → is_lt p ≡ true → is_lt (cmp x w) ≡ true
      below Less Less f g h k = ap is_lt (order.trans x z w f g)
      below Less Equal f g h k = absurd (false≢true k)
      below Less Greater f g h k = absurd (false≢true k)
      below Equal p f g h k = absurd (false≢true h)
      below Greater p f g h k = absurd (false≢true h)

  ascending-put : (x : X) (zs : List X) → AllByRecursion (λ z. eq_by_cmp cmp x z ≡ false) zs → is_ascending cmp zs ≡ true → is_ascending cmp (put_in_order cmp x zs) ≡ true
  ascending-put x [] apart up = refl
  ascending-put x (z ∷ zs) apart up =
      let later : list_all (λ w. is_lt (cmp z w)) zs ≡ true = (and_parts (list_all (λ w. is_lt (cmp z w)) zs) (is_ascending cmp zs) up).0 in
      let rest : is_ascending cmp zs ≡ true = (and_parts (list_all (λ w. is_lt (cmp z w)) zs) (is_ascending cmp zs) up).1 in
      elim (is_gt (cmp x z)) as (λ b. is_gt (cmp x z) ≡ b → is_ascending cmp (cond b (z ∷ put_in_order cmp x zs) (x ∷ z ∷ zs)) ≡ true) [
        | true ↦ λ e.
            and_from (list_all (λ w. is_lt (cmp z w)) (put_in_order cmp x zs)) (is_ascending cmp (put_in_order cmp x zs)) (all-put (λ w. is_lt (cmp z w)) x zs (sym (gt-lt x z) ∙ e) later) (ascending-put x zs apart.1 rest)
        | false ↦ λ e.
            let lt = neither (cmp x z) e apart.0 in
            and_from (list_all (λ w. is_lt (cmp x w)) (z ∷ zs)) (is_ascending cmp (z ∷ zs)) (and_from (is_lt (cmp x z)) (list_all (λ w. is_lt (cmp x w)) zs) lt (all_below x z lt zs later)) up
      ] refl

  -- elements of which no two tie rise strictly in order
  pub in_order-ascends : (xs : List X) → IsDistinct (eq_by_cmp cmp) xs → is_ascending cmp (in_order cmp xs) ≡ true
  in_order-ascends [] h = refl
  in_order-ascends (x ∷ xs) h = ascending-put x (in_order cmp xs) apart (in_order-ascends xs (IsDistinct-tail (eq_by_cmp cmp) x xs h))
    where
      apart : AllByRecursion (λ z. eq_by_cmp cmp x z ≡ false) (in_order cmp xs)
      apart = IsDistinct-head (eq_by_cmp cmp) x (in_order cmp xs)
          (IsDistinct-permutation (eq_by_cmp cmp) (eq_by_cmp_equiv order) (x ∷ xs) (x ∷ in_order cmp xs) (IsPermutation-cons x xs (in_order cmp xs) (in_order-moves cmp xs)) h)

-- as many elements as before
pub length-in_order : {X : Type 0} (cmp : X → X → Ordering) (xs : List X) → length (in_order cmp xs) ≡ length xs
length-in_order cmp xs = length_permutation xs (in_order cmp xs) (in_order-moves cmp xs)

-- a list rises by a key where the list of its keys rises
pub is_ascending-map : {X Y : Type 0} (cmp : Y → Y → Ordering) (key : X → Y) (xs : List X) → is_ascending cmp (map key xs) ≡ is_ascending (λ a b. cmp (key a) (key b)) xs
is_ascending-map cmp key [] = refl
is_ascending-map cmp key (x ∷ xs) = λ i. list_all-map (λ y. is_lt (cmp (key x) y)) key xs i && is_ascending-map cmp key xs i

-- a list of elements that a test says apart, where the test answers as ties do
pub apart_by_ties : {X : Type 0} (like : X → X → Bool) (cmp : X → X → Ordering) → ((x y : X) → like x y ≡ eq_by_cmp cmp x y) → (xs : List X) → IsDistinct like xs → IsDistinct (eq_by_cmp cmp) xs
apart_by_ties like cmp agrees xs h = subst (λ e. IsDistinct e xs) (λ i x y. agrees x y i) h

-- ---- what is made of the elements in order

module _ {X Y : Type 0} (cmp : X → X → Ordering) (other : Y → Y → Ordering) (f : X → Y) (agrees : (x y : X) → other (f x) (f y) ≡ cmp x y) where
  put_in_order-map : (x : X) (xs : List X) → map f (put_in_order cmp x xs) ≡ put_in_order other (f x) (map f xs)
  put_in_order-map x [] = refl
  put_in_order-map x (y ∷ ys) =
      by (is_gt (cmp x y)) (put_in_order-map x ys) ∙ ap (λ o. cond (is_gt o) (f y ∷ put_in_order other (f x) (map f ys)) (f x ∷ f y ∷ map f ys)) (sym (agrees x y))
    where
      by : (b : Bool) → map f (put_in_order cmp x ys) ≡ put_in_order other (f x) (map f ys) → map f (cond b (y ∷ put_in_order cmp x ys) (x ∷ y ∷ ys)) ≡ cond b (f y ∷ put_in_order other (f x) (map f ys)) (f x ∷ f y ∷ map f ys)
      by true rest = ap (λ l. f y ∷ l) rest
      by false rest = refl

  -- the order is the same before and after, where the one order goes by what the other does
  pub in_order-map : (xs : List X) → map f (in_order cmp xs) ≡ in_order other (map f xs)
  in_order-map [] = refl
  in_order-map (x ∷ xs) = put_in_order-map x (in_order cmp xs) ∙ ap (put_in_order other (f x)) (in_order-map xs)
