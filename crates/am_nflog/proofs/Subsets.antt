-- One step of the search for the members of one ascending list in another.
use Rattle.std.proofs.Common.{◌≡◌, ℕ, suc, ◌+◌, ◌<◌, ◌≤◌, ◌==◌, length, map, drop, get_or, subst, add-one, drop-cons, Bool, true, false, ◌||◌, ◌&&◌, List, [], ◌∷◌, refl, sym, ap, ◌∙◌, true≢false}
use Rattle.std.proofs.Math.Dec.{eqb-suc-zero}
use Rattle.std.proofs.lemmas.List.{drop_all, length-map}
use Rattle.std.specs.Cmp.{IsTotalOrder, first_so, second_so}
use Rattle.std.specs.Cmp.Derive.{both_true}
use Rattle.std.specs.List.{list_all}
use Rattle.std.specs.Ordering.{is_eq, is_lt, ordering_reverse}
use Rattle.std.specs.declared.cmp.Ordering.{Ordering}
use Rattle.std.specs.declared.cmp.Ordering.TheVariants.{Less, Equal, Greater}
use Rattle.am_nflog.specs.Members.{is_ascending, is_member, is_subset}

-- what is left to find in what is left to look through gives the answer, and both ascend
pub record IsLeft {N : Type 0} (eq : N → N → Bool) (cmp : N → N → Ordering) (some all missing left : List N) : Type 0 where
  pub answer : is_subset eq some all ≡ is_subset eq missing left
  pub missing_ascends : is_ascending cmp missing ≡ true
  pub left_ascends : is_ascending cmp left ≡ true

Less-is : (r : Ordering) → is_lt r ≡ true → r ≡ Less
Less-is Less h = refl
Less-is Equal h = absurd (true≢false (sym h))
Less-is Greater h = absurd (true≢false (sym h))

module _ {N : Type 0} {eq : N → N → Bool} {cmp : N → N → Ordering} (order : IsTotalOrder cmp) (tied : (x y : N) → eq x y ≡ is_eq (cmp x y)) where
  -- x is below each of ys
  abbrev below : N → List N → Bool
  below x ys = list_all (λ y. is_lt (cmp x y)) ys

  not_member : (x : N) (ys : List N) → below x ys ≡ true → is_member eq x ys ≡ false
  not_member x [] h = refl
  not_member x (y ∷ ys) h =
      let apart : eq x y ≡ false = tied x y ∙ ap is_eq (Less-is (cmp x y) (first_so _ _ h)) in
      ap (λ b. b || is_member eq x ys) apart ∙ not_member x ys (second_so _ _ h)

  below_further : (x y : N) (zs : List N) → cmp x y ≡ Less → below y zs ≡ true → below x zs ≡ true
  below_further x y [] e h = refl
  below_further x y (z ∷ zs) e h =
      both_true (ap is_lt (order.trans x y z e (Less-is (cmp y z) (first_so _ _ h)))) (below_further x y zs e (second_so _ _ h))

  below_alike : (x y : N) (zs : List N) → cmp x y ≡ Equal → below x zs ≡ below y zs
  below_alike x y [] e = refl
  below_alike x y (z ∷ zs) e = (λ i. is_lt (order.congr x y z e i) && below_alike x y zs e i)

  -- a member that is below all of xs is none of them
  subset_past : (y : N) (xs ys : List N) → below y xs ≡ true → is_subset eq xs (y ∷ ys) ≡ is_subset eq xs ys
  subset_past y [] ys h = refl
  subset_past y (x ∷ xs) ys h =
      let apart : eq x y ≡ false = tied x y ∙ ap is_eq (order.antisymm x y ∙ ap ordering_reverse (Less-is (cmp y x) (first_so _ _ h))) in
      let rest : is_subset eq xs (y ∷ ys) ≡ is_subset eq xs ys = subset_past y xs ys (second_so _ _ h) in
      (λ i. (apart i || is_member eq x ys) && rest i)

  -- the first member is below all that are left: it isn't there
  pub subset_Less : (x y : N) (xs ys : List N) → cmp x y ≡ Less → is_ascending cmp (y ∷ ys) ≡ true → is_subset eq (x ∷ xs) (y ∷ ys) ≡ false
  subset_Less x y xs ys e up =
      let absent : is_member eq x (y ∷ ys) ≡ false = not_member x (y ∷ ys) (both_true (ap is_lt e) (below_further x y ys e (first_so _ _ up))) in
      ap (λ b. b && is_subset eq xs (y ∷ ys)) absent

  -- it is the next one: both go on
  pub subset_Equal : (x y : N) (xs ys : List N) → cmp x y ≡ Equal → is_ascending cmp (x ∷ xs) ≡ true → is_subset eq (x ∷ xs) (y ∷ ys) ≡ is_subset eq xs ys
  subset_Equal x y xs ys e up =
      let there : eq x y ≡ true = tied x y ∙ ap is_eq e in
      let rest : is_subset eq xs (y ∷ ys) ≡ is_subset eq xs ys = subset_past y xs ys (sym (below_alike x y xs e) ∙ first_so _ _ up) in
      (λ i. (there i || is_member eq x ys) && rest i)

  -- it is above the next one, and so are the others
  pub subset_Greater : (x y : N) (xs ys : List N) → cmp x y ≡ Greater → is_ascending cmp (x ∷ xs) ≡ true → is_subset eq (x ∷ xs) (y ∷ ys) ≡ is_subset eq (x ∷ xs) ys
  subset_Greater x y xs ys e up =
      let under : cmp y x ≡ Less = order.antisymm y x ∙ ap ordering_reverse e in
      subset_past y (x ∷ xs) ys (both_true (ap is_lt under) (below_further y x xs under (first_so _ _ up)))

  module _ {some all : List N} {x y : N} {xs ys : List N} (here : IsLeft eq cmp some all (x ∷ xs) (y ∷ ys)) where
    pub left_Less : cmp x y ≡ Less → is_subset eq some all ≡ false
    left_Less e = here.answer ∙ subset_Less x y xs ys e here.left_ascends

    pub left_Equal : cmp x y ≡ Equal → IsLeft eq cmp some all xs ys
    left_Equal e = record {
      answer = here.answer ∙ subset_Equal x y xs ys e here.missing_ascends;
      missing_ascends = second_so _ _ here.missing_ascends;
      left_ascends = second_so _ _ here.left_ascends;
    }

    pub left_Greater : cmp x y ≡ Greater → IsLeft eq cmp some all (x ∷ xs) ys
    left_Greater e = record {
      answer = here.answer ∙ subset_Greater x y xs ys e here.missing_ascends;
      missing_ascends = here.missing_ascends;
      left_ascends = second_so _ _ here.left_ascends;
    }

-- what is left begins with the next member, and what is missing with its first
pub opened : {N : Type 0} {eq : N → N → Bool} {cmp : N → N → Ordering} {some : List N} (all missing rest : List N) (i : ℕ) (first next : N)
    → IsLeft eq cmp some all missing (drop i all) → missing ≡ first ∷ rest → next ≡ get_or all i next → i < length all
    → IsLeft eq cmp some all (first ∷ rest) (next ∷ drop (i + 1) all)
opened {N} {eq} {cmp} {some} all missing rest i first next here parts at within =
    let continues : drop i all ≡ next ∷ drop (i + 1) all
    = drop-cons all i next within ∙ ap (λ x. x ∷ drop (suc i) all) (sym at) ∙ ap (λ n. next ∷ drop n all) (sym (add-one i)) in
    subst (λ left. IsLeft eq cmp some all (first ∷ rest) left) continues (subst (λ xs. IsLeft eq cmp some all xs (drop i all)) parts here)

-- where nothing is left to look through, all was found exactly if nothing is missing
pub IsLeft-end : {N : Type 0} {eq : N → N → Bool} {cmp : N → N → Ordering} {some : List N} (all missing : List N) (i : ℕ)
    → IsLeft eq cmp some all missing (drop i all) → length all ≤ i → is_subset eq some all ≡ (length missing == 0)
IsLeft-end {N} {eq} all missing i here past =
    here.answer ∙ ap (is_subset eq missing) (drop_all i all past) ∙ of_none missing
  where
    of_none : (xs : List N) → is_subset eq xs [] ≡ (length xs == 0)
    of_none [] = refl
    of_none (x ∷ xs) = sym (eqb-suc-zero (length xs))

-- what is lent of a list is as many
pub none_mapped : {F N : Type 0} (lent : F → N) (xs : List F) → (length (map lent xs) == 0) ≡ (length xs == 0)
none_mapped lent xs = ap (λ n. n == 0) (length-map xs lent)
