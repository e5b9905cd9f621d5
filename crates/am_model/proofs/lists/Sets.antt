-- What passes a test among the elements of lists, and what is found where no two are alike.
use Rattle.std.proofs.Common.{◌≡◌, Bool, true, false, cond, not, ◌&&◌, ◌||◌, Option, Some, None, List, [], ◌∷◌, map, refl, sym, ap, ◌∙◌}
use Rattle.std.specs.Prelude.{find, filter, is_some}
use Rattle.std.specs.Cmp.{IsEquivalence}
use Rattle.std.specs.List.{AllByRecursion, IsDistinct, list_any, filter_map, cons_option}
use Rattle.std.proofs.lemmas.Bool.{false≢true, not-true}
use Rattle.std.proofs.lemmas.Map.Keys.{IsDistinct-head, IsDistinct-tail, IsDistinct-cons}
use Rattle.am_model.specs.Lists.{upsert, without}
use Rattle.am_model.proofs.lists.Alone.{without-none}
use Rattle.am_model.proofs.lists.Distinct.{IsDistinct-filter, all-weaker, all-passes}

-- ---- what passes a test

-- nothing that is gone passes the test
abbrev pub IsBlindTo : {X : Type 0} → (X → Bool) → (X → Bool) → Type 0
IsBlindTo {X} gone test = (x : X) → gone x ≡ true → test x ≡ false

module _ {X : Type 0} where
  -- no element, where each fails
  pub any-failing : (test : X → Bool) (xs : List X) → AllByRecursion (λ x. test x ≡ false) xs → list_any test xs ≡ false
  any-failing test [] all = refl
  any-failing test (x ∷ xs) all = ap (λ b. b || list_any test xs) all.0 ∙ any-failing test xs all.1

  -- some element, exactly where one is found
  pub any-find : (test : X → Bool) (xs : List X) → list_any test xs ≡ is_some (find test xs)
  any-find test [] = refl
  any-find test (x ∷ xs) =
      elim (test x) as (λ b. (b || list_any test xs) ≡ is_some (cond b (Some x) (find test xs))) [ true ↦ refl | false ↦ any-find test xs ]

  -- among those that pass another
  pub any-filter : (test keep : X → Bool) (xs : List X) → list_any test (filter keep xs) ≡ list_any (λ x. keep x && test x) xs
  any-filter test keep [] = refl
  any-filter test keep (x ∷ xs) =
      elim (keep x) as (λ b. list_any test (cond b (x ∷ filter keep xs) (filter keep xs)) ≡ ((b && test x) || list_any (λ y. keep y && test y) xs)) [
        | true ↦ ap (λ b. test x || b) (any-filter test keep xs)
        | false ↦ any-filter test keep xs
      ]

  -- by tests that agree
  pub any-alike : (test other : X → Bool) → ((x : X) → test x ≡ other x) → (xs : List X) → list_any test xs ≡ list_any other xs
  any-alike test other same xs = (λ j. list_any (λ x. same x j) xs)

  -- without those that the test doesn't pass in any case
  pub any-blind : (gone test : X → Bool) → IsBlindTo gone test → (xs : List X) → list_any test (without gone xs) ≡ list_any test xs
  any-blind gone test blind xs =
      any-filter test (λ x. not (gone x)) xs ∙ any-alike (λ x. not (gone x) && test x) test (λ x. one x (gone x) refl) xs
    where
      one : (x : X) (b : Bool) → gone x ≡ b → (not b && test x) ≡ test x
      one x true e = sym (blind x e)
      one x false e = refl

  -- with a condition
  pub any-and : (test : X → Bool) (c : Bool) (xs : List X) → list_any (λ x. test x && c) xs ≡ (list_any test xs && c)
  any-and test c [] = refl
  any-and test c (x ∷ xs) = ap (λ b. (test x && c) || b) (any-and test c xs) ∙ by (test x) (list_any test xs) c
    where
      by : (a b d : Bool) → ((a && d) || (b && d)) ≡ ((a || b) && d)
      by true true true = refl
      by true true false = refl
      by true false true = refl
      by true false false = refl
      by false b d = refl

  -- after one is put in
  pub any-put : (like : X → X → Bool) → IsEquivalence like → (test : X → Bool) (x : X) (xs : List X) → IsDistinct like xs → list_any test (upsert like x xs) ≡ (test x || list_any test (without (like x) xs))
  any-put like laws test x [] h = refl
  any-put like laws test x (y ∷ ys) h =
      elim (like x y) as (λ b. like x y ≡ b → list_any test (cond b (x ∷ ys) (y ∷ upsert like x ys)) ≡ (test x || list_any test (cond (not b) (y ∷ without (like x) ys) (without (like x) ys)))) [
        | true ↦ λ e.
            ap (λ zs. test x || list_any test zs) (sym (without-none (like x) ys (all-weaker (λ z. like y z ≡ false) (λ z. like x z ≡ false) (λ z apart. laws.congr x y z e ∙ apart) ys (IsDistinct-head like y ys h))))
        | false ↦ λ e.
            ap (λ b. test y || b) (any-put like laws test x ys (IsDistinct-tail like y ys h)) ∙ turn (test y) (test x) (list_any test (without (like x) ys))
      ] refl
    where
      turn : (a b c : Bool) → (a || (b || c)) ≡ (b || (a || c))
      turn true true c = refl
      turn true false c = refl
      turn false b c = refl

  -- the latest first leaves no two alike
  pub latest-distinct : (like : X → X → Bool) (x : X) (xs : List X) → IsDistinct like xs → IsDistinct like (x ∷ without (like x) xs)
  latest-distinct like x xs h =
      IsDistinct-cons like x (without (like x) xs)
      (all-weaker (λ y. not (like x y) ≡ true) (λ y. like x y ≡ false) (λ y e. not-true (like x y) e) (without (like x) xs) (all-passes (λ y. not (like x y)) xs))
      (IsDistinct-filter like (λ y. not (like x y)) xs h)

-- whether there is one, and it passes a test
abbrev pub passes : {X : Type 0} → (X → Bool) → Option X → Bool
passes test None = false
passes test (Some x) = test x

module _ {X Y : Type 0} where
  pub any-map : (test : Y → Bool) (f : X → Y) (xs : List X) → list_any test (map f xs) ≡ list_any (λ x. test (f x)) xs
  any-map test f [] = refl
  any-map test f (x ∷ xs) = ap (λ b. test (f x) || b) (any-map test f xs)

  pub any-filter_map : (test : Y → Bool) (h : X → Option Y) (xs : List X) → list_any test (filter_map h xs) ≡ list_any (λ x. passes test (h x)) xs
  any-filter_map test h [] = refl
  any-filter_map test h (x ∷ xs) = by (h x) ∙ ap (λ b. passes test (h x) || b) (any-filter_map test h xs)
    where
      by : (o : Option Y) → list_any test (cons_option o (filter_map h xs)) ≡ (passes test o || list_any test (filter_map h xs))
      by None = refl
      by (Some y) = refl

-- where no two are alike, one that passes two tests of which the first is reported by being alike is the one that is found
pub any-found : {X : Type 0} (like : X → X → Bool) (test also : X → Bool) → ((x y : X) → test x ≡ true → test y ≡ true → like x y ≡ true) → (xs : List X) → IsDistinct like xs
    → list_any (λ x. test x && also x) xs ≡ passes also (find test xs)
any-found like test also agrees [] h = refl
any-found {X} like test also agrees (x ∷ xs) h =
    elim (test x) as (λ b. test x ≡ b → ((b && also x) || list_any (λ y. test y && also y) xs) ≡ passes also (cond b (Some x) (find test xs))) [
      | true ↦ λ e. ap (λ b. also x || b) (none xs (IsDistinct-head like x xs h) e) ∙ or_none (also x)
      | false ↦ λ e. any-found like test also agrees xs (IsDistinct-tail like x xs h)
    ] refl
  where
    or_none : (b : Bool) → (b || false) ≡ b
    or_none true = refl
    or_none false = refl

    no : (y : X) (b : Bool) → test y ≡ b → like x y ≡ false → test x ≡ true → (b && also y) ≡ false
    no y true e apart own = absurd (false≢true (sym apart ∙ agrees x y own e))
    no y false e apart own = refl

    none : (ys : List X) → AllByRecursion (λ y. like x y ≡ false) ys → test x ≡ true → list_any (λ y. test y && also y) ys ≡ false
    none [] all own = refl
    none (y ∷ ys) all own = ap (λ b. b || list_any (λ z. test z && also z) ys) (no y (test y) refl all.0 own) ∙ none ys all.1 own

-- where no two are alike, each is found by what it is like
pub each-found : {X : Type 0} (like : X → X → Bool) → IsEquivalence like → (xs : List X) → IsDistinct like xs → AllByRecursion (λ x. find (like x) xs ≡ Some x) xs
each-found like laws [] h = tt
each-found {X} like laws (x ∷ xs) h = (
  ap (λ b. cond b (Some x) (find (like x) xs)) (laws.refl x),
  others xs (IsDistinct-head like x xs h) (each-found like laws xs (IsDistinct-tail like x xs h)),
)
  where
    others : (ys : List X) → AllByRecursion (λ y. like x y ≡ false) ys → AllByRecursion (λ y. find (like y) xs ≡ Some y) ys → AllByRecursion (λ y. cond (like y x) (Some x) (find (like y) xs) ≡ Some y) ys
    others [] apart all = tt
    others (y ∷ ys) apart all = (ap (λ b. cond b (Some x) (find (like y) xs)) (laws.symm y x ∙ apart.0) ∙ all.0, others ys apart.1 all.1)
