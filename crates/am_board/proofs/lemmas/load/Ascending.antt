-- Lists that rise strictly, reported by each two that are side by side.
use Rattle.std.proofs.Common.{◌≡◌, ℕ, zero, suc, ◌+◌, ◌-◌, ◌<◌, ◌≤◌, Bool, true, false, not, ◌&&◌, List, [], ◌∷◌, drop, length, refl, sym, ap, ◌∙◌, arith, is_ge, slice_index_or}
use Rattle.std.specs.Cmp.{IsTotalOrder}
use Rattle.std.specs.List.{list_all}
use Rattle.std.specs.Ordering.{is_lt}
use Rattle.std.specs.declared.cmp.Ordering.{Ordering}
use Rattle.std.specs.declared.cmp.Ordering.TheVariants.{Less, Equal, Greater}
use Rattle.std.proofs.lemmas.Bool.{false≢true, and_from, and_parts}
use Rattle.std.proofs.lemmas.List.{drop_more}
use Rattle.am_nflog.specs.Members.{is_ascending}

-- what isn't at or above is below
ge_lt : (o : Ordering) → is_ge o ≡ not (is_lt o)
ge_lt Less = refl
ge_lt Equal = refl
ge_lt Greater = refl

not_twice : (b c : Bool) → c ≡ not b → b ≡ not c
not_twice true c e = sym (ap not e)
not_twice false c e = sym (ap not e)

module _ {X : Type 0} (cmp : X → X → Ordering) (order : IsTotalOrder cmp) where
  lt_lt : (x y z : X) (o p : Ordering) → cmp x y ≡ o → cmp y z ≡ p → is_lt o ≡ true → is_lt p ≡ true → is_lt (cmp x z) ≡ true
  lt_lt x y z Less Less e f h k = ap is_lt (order.trans x y z e f)
  lt_lt x y z Less Equal e f h k = absurd (false≢true k)
  lt_lt x y z Less Greater e f h k = absurd (false≢true k)
  lt_lt x y z Equal p e f h k = absurd (false≢true h)
  lt_lt x y z Greater p e f h k = absurd (false≢true h)

  -- what is below y is below all that y is below
  all_below : (x y : X) → is_lt (cmp x y) ≡ true → (zs : List X) → list_all (λ z. is_lt (cmp y z)) zs ≡ true → list_all (λ z. is_lt (cmp x z)) zs ≡ true
  all_below x y h [] all = refl
  all_below x y h (z ∷ zs) all =
      let parts = and_parts (is_lt (cmp y z)) (list_all (λ w. is_lt (cmp y w)) zs) all in
      and_from (is_lt (cmp x z)) (list_all (λ w. is_lt (cmp x w)) zs) (lt_lt x y z (cmp x y) (cmp y z) refl refl h parts.0) (all_below x y h zs parts.1)

  -- below the first of a rising list is below all of it
  below_all : (x y : X) (ys : List X) (b : Bool) → list_all (λ w. is_lt (cmp y w)) ys ≡ b → is_lt (cmp x y) ≡ true → (list_all (λ w. is_lt (cmp x w)) ys && b) ≡ b
  below_all x y ys true e h = and_from (list_all (λ w. is_lt (cmp x w)) ys) true (all_below x y h ys e) refl
  below_all x y ys false e h = none (list_all (λ w. is_lt (cmp x w)) ys)
    where
      none : (a : Bool) → (a && false) ≡ false
      none true = refl
      none false = refl

  two_first : (x y : X) (ys : List X) → is_ascending cmp (x ∷ y ∷ ys) ≡ (is_lt (cmp x y) && is_ascending cmp (y ∷ ys))
  two_first x y ys = by (is_lt (cmp x y)) refl
    where
      joined : (a b c : Bool) → (a && b) ≡ b → (a && (b && c)) ≡ (b && c)
      joined true b c e = refl
      joined false true c e = absurd (false≢true e)
      joined false false c e = refl

      by : (b : Bool) → is_lt (cmp x y) ≡ b → ((b && list_all (λ w. is_lt (cmp x w)) ys) && is_ascending cmp (y ∷ ys)) ≡ (b && is_ascending cmp (y ∷ ys))
      by true e =
          joined (list_all (λ w. is_lt (cmp x w)) ys) (list_all (λ w. is_lt (cmp y w)) ys) (is_ascending cmp ys)
          (below_all x y ys (list_all (λ w. is_lt (cmp y w)) ys) refl e)
      by false e = refl

  -- a list of no more than one rises
  pub ascending-short : (xs : List X) (n : ℕ) → length xs ≤ n + 1 → is_ascending cmp (drop n xs) ≡ true
  ascending-short [] zero h = refl
  ascending-short [] (suc n) h = refl
  ascending-short (x ∷ []) zero h = refl
  ascending-short (x ∷ y ∷ ys) zero h = absurd (omega (arith, h))
  ascending-short (x ∷ xs) (suc n) h = ascending-short xs n (omega (arith, h))

  -- the list from one index on rises, if this one is below the next, and the list from there on rises
  pub ascending-on : (xs : List X) (i : ℕ) (x y : X) → 1 ≤ i → i < length xs → x ≡ slice_index_or xs (i - 1) x → y ≡ slice_index_or xs i y
      → is_ascending cmp (drop (i - 1) xs) ≡ (not (is_ge (cmp x y)) && is_ascending cmp (drop i xs))
  ascending-on xs i x y some within at_x at_y =
      let next : i - 1 + 1 ≡ i = omega (arith, some) in
      let there : drop i xs ≡ y ∷ drop (i + 1) xs = drop_more xs i y within ∙ ap (λ z. z ∷ drop (i + 1) xs) (sym at_y) in
      let here : drop (i - 1) xs ≡ x ∷ y ∷ drop (i + 1) xs =
      drop_more xs (i - 1) x (omega (arith, some, within)) ∙ (λ j. sym at_x j ∷ drop (next j) xs) ∙ ap (λ l. x ∷ l) there in
      ap (is_ascending cmp) here ∙ two_first x y (drop (i + 1) xs)
      ∙ (λ j. not_twice (is_lt (cmp x y)) (is_ge (cmp x y)) (ge_lt (cmp x y)) j && is_ascending cmp (sym there j))
