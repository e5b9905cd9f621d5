-- What holds of each element, and elements that differ, through filters, changes and look-ups.
use Rattle.std.proofs.Common.{◌≡◌, Bool, true, false, cond, ◌||◌, Option, Some, None, List, [], ◌∷◌, ◌++◌, map, refl, ◌∙◌, subst, arith}
use Rattle.std.specs.Prelude.{All, IfSome, find, filter}
use Rattle.std.specs.List.{list_any, AllByRecursion, IsDistinct}
use Rattle.std.specs.Ordering.{is_gt}
use Rattle.std.specs.declared.cmp.Ordering.{Ordering}
use Rattle.std.proofs.lemmas.List.{length-map, get_or-map}
use Rattle.std.proofs.lemmas.List.Elements.{All-cons, All-nil, All-tail}
use Rattle.std.proofs.lemmas.Map.Keys.{IsDistinct-head, IsDistinct-tail, IsDistinct-cons}
use Rattle.am_model.specs.Lists.{least, lesser}

pub IsDistinct-nil : {X : Type 0} (like : X → X → Bool) → IsDistinct like []
unfolding IsDistinct
IsDistinct-nil like = tt

module _ {X : Type 0} (P : X → Type 0) where
  pub all_from : (xs : List X) → AllByRecursion P xs → All P xs
  all_from [] all = All-nil P
  all_from (x ∷ xs) all = All-cons P x xs all.0 (all_from xs all.1)

  pub all_to : (xs : List X) → All P xs → AllByRecursion P xs
  all_to [] all = tt
  all_to (x ∷ xs) all = (all 0 x (omega arith), all_to xs (All-tail P x xs all))

  pub all-filter : (test : X → Bool) (xs : List X) → AllByRecursion P xs → AllByRecursion P (filter test xs)
  all-filter test [] all = tt
  all-filter test (x ∷ xs) all =
      elim (test x) as (λ b. AllByRecursion P (cond b (x ∷ filter test xs) (filter test xs))) [
        | true ↦ (all.0, all-filter test xs all.1)
        | false ↦ all-filter test xs all.1
      ]

  pub all-push : (xs : List X) (x : X) → AllByRecursion P xs → P x → AllByRecursion P (xs ++ x ∷ [])
  all-push [] x all h = (h, tt)
  all-push (y ∷ xs) x all h = (all.0, all-push xs x all.1 h)

  pub all-last : (xs : List X) (x : X) → AllByRecursion P (xs ++ x ∷ []) → AllByRecursion P xs × P x
  all-last [] x all = (tt, all.0)
  all-last (y ∷ xs) x all = let rest = all-last xs x all.1 in ((all.0, rest.0), rest.1)

  -- what holds of each element holds of the one that is found, if one is
  pub all-found : (test : X → Bool) (xs : List X) → AllByRecursion P xs → IfSome (find test xs) P
  all-found test [] all = tt
  all-found test (x ∷ xs) all =
      elim (test x) as (λ b. IfSome (cond b (Some x) (find test xs)) P) [ true ↦ all.0 | false ↦ all-found test xs all.1 ]

  pub all-find : (test : X → Bool) (x : X) (xs : List X) → AllByRecursion P xs → find test xs ≡ Some x → P x
  all-find test x xs all found = subst (λ o. IfSome o P) found (all-found test xs all)

  -- and of the least one
  pub all-lesser : (cmp : X → X → Ordering) (xs : List X) → AllByRecursion P xs → IfSome (least cmp xs) P
  all-lesser cmp [] all = tt
  all-lesser cmp (x ∷ xs) all = by (least cmp xs) (all-lesser cmp xs all.1)
    where
      by : (o : Option X) → IfSome o P → P (lesser cmp x o)
      by None h = all.0
      by (Some y) h = elim (is_gt (cmp x y)) as (λ b. P (cond b y x)) [ true ↦ h | false ↦ all.0 ]

  pub all-least : (cmp : X → X → Ordering) (x : X) (xs : List X) → AllByRecursion P xs → least cmp xs ≡ Some x → P x
  all-least cmp x xs all least_is = subst (λ o. IfSome o P) least_is (all-lesser cmp xs all)

module _ {X : Type 0} (P Q : X → Type 0) where
  pub all-weaker : ((x : X) → P x → Q x) → (xs : List X) → AllByRecursion P xs → AllByRecursion Q xs
  all-weaker imp [] all = tt
  all-weaker imp (x ∷ xs) all = (imp x all.0, all-weaker imp xs all.1)

  -- and of what a filter keeps, where it follows of an element that passes
  pub all-kept : (test : X → Bool) → ((x : X) → P x → test x ≡ true → Q x) → (xs : List X) → AllByRecursion P xs → AllByRecursion Q (filter test xs)
  all-kept test imp [] all = tt
  all-kept test imp (x ∷ xs) all =
      elim (test x) as (λ b. test x ≡ b → AllByRecursion Q (cond b (x ∷ filter test xs) (filter test xs))) [
        | true ↦ λ e. (imp x all.0 e, all-kept test imp xs all.1)
        | false ↦ λ _. all-kept test imp xs all.1
      ] refl

  pub all-both : (R : X → Type 0) → ((x : X) → P x → Q x → R x) → (xs : List X) → AllByRecursion P xs → AllByRecursion Q xs → AllByRecursion R xs
  all-both R imp [] all also = tt
  all-both R imp (x ∷ xs) all also = (imp x all.0 also.0, all-both R imp xs all.1 also.1)

-- each element that a filter keeps passes
pub all-passes : {X : Type 0} (test : X → Bool) (xs : List X) → AllByRecursion (λ x. test x ≡ true) (filter test xs)
all-passes test [] = tt
all-passes test (x ∷ xs) =
    elim (test x) as (λ b. test x ≡ b → AllByRecursion (λ y. test y ≡ true) (cond b (x ∷ filter test xs) (filter test xs))) [
      | true ↦ λ e. (e, all-passes test xs)
      | false ↦ λ e. all-passes test xs
    ] refl

-- the one that is found passes
pub find-passes : {X : Type 0} (test : X → Bool) (x : X) (xs : List X) → find test xs ≡ Some x → test x ≡ true
find-passes test x [] e = absurd (cc)
find-passes test x (y ∷ xs) found =
    elim (test y) as (λ b. test y ≡ b → cond b (Some y) (find test xs) ≡ Some x → test x ≡ true) [
      | true ↦ λ is e. let same : y ≡ x = cc in subst (λ z. test z ≡ true) same is
      | false ↦ λ is e. find-passes test x xs e
    ] refl found

-- where no element passes
pub all-none : {X : Type 0} (test : X → Bool) (xs : List X) → list_any test xs ≡ false → AllByRecursion (λ x. test x ≡ false) xs
all-none test [] h = tt
all-none test (x ∷ xs) none =
    elim (test x) as (λ b. test x ≡ b → (b || list_any test xs) ≡ false → AllByRecursion (λ y. test y ≡ false) (x ∷ xs)) [
      | true ↦ λ is e. absurd (cc)
      | false ↦ λ is e. (is, all-none test xs e)
    ] refl none

module _ {X Y : Type 0} (f : X → Y) where
  -- what holds of what is reported of each element
  pub all-mapped : (P : Y → Type 0) (xs : List X) → All P (map f xs) → All (λ x. P (f x)) xs
  all-mapped P xs all i d within = subst P (get_or-map f xs i d (f d) within) (all i (f d) (omega (arith, length-map xs f, within)))

  pub all-map : (P : Y → Type 0) (xs : List X) → AllByRecursion (λ x. P (f x)) xs → AllByRecursion P (map f xs)
  all-map P [] all = tt
  all-map P (x ∷ xs) all = (all.0, all-map P xs all.1)

  all-unmap : (P : Y → Type 0) (xs : List X) → AllByRecursion P (map f xs) → AllByRecursion (λ x. P (f x)) xs
  all-unmap P [] all = tt
  all-unmap P (x ∷ xs) all = (all.0, all-unmap P xs all.1)

  -- elements that are distinguished by what is reported of each
  pub IsDistinct-unmap : (like : Y → Y → Bool) (xs : List X) → IsDistinct like (map f xs) → IsDistinct (λ x y. like (f x) (f y)) xs
  IsDistinct-unmap like [] h = IsDistinct-nil (λ x y. like (f x) (f y))
  IsDistinct-unmap like (x ∷ xs) h =
      IsDistinct-cons (λ x y. like (f x) (f y)) x xs
      (all-unmap (λ y. like (f x) y ≡ false) xs (IsDistinct-head like (f x) (map f xs) h))
      (IsDistinct-unmap like xs (IsDistinct-tail like (f x) (map f xs) h))

  pub IsDistinct-map : (like : Y → Y → Bool) (xs : List X) → IsDistinct (λ x y. like (f x) (f y)) xs → IsDistinct like (map f xs)
  IsDistinct-map like [] h = IsDistinct-nil like
  IsDistinct-map like (x ∷ xs) h =
      IsDistinct-cons like (f x) (map f xs)
      (all-map (λ y. like (f x) y ≡ false) xs (IsDistinct-head (λ x y. like (f x) (f y)) x xs h))
      (IsDistinct-map like xs (IsDistinct-tail (λ x y. like (f x) (f y)) x xs h))

module _ {X : Type 0} (like : X → X → Bool) where
  pub IsDistinct-filter : (test : X → Bool) (xs : List X) → IsDistinct like xs → IsDistinct like (filter test xs)
  IsDistinct-filter test [] h = h
  IsDistinct-filter test (x ∷ xs) h =
      let head = IsDistinct-head like x xs h in
      let tail = IsDistinct-filter test xs (IsDistinct-tail like x xs h) in
      elim (test x) as (λ b. IsDistinct like (cond b (x ∷ filter test xs) (filter test xs))) [
        | true ↦ IsDistinct-cons like x (filter test xs) (all-filter (λ y. like x y ≡ false) test xs head) tail
        | false ↦ tail
      ]

  -- the last one, and those before it
  pub IsDistinct-last : (xs : List X) (x : X) → IsDistinct like (xs ++ x ∷ []) → IsDistinct like xs × AllByRecursion (λ y. like y x ≡ false) xs
  IsDistinct-last [] x h = (IsDistinct-nil like, tt)
  IsDistinct-last (y ∷ xs) x h =
      let head = all-last (λ z. like y z ≡ false) xs x (IsDistinct-head like y (xs ++ x ∷ []) h) in
      let rest = IsDistinct-last xs x (IsDistinct-tail like y (xs ++ x ∷ []) h) in
      (IsDistinct-cons like y xs head.0 rest.0, (head.1, rest.1))

  -- elements that another test says apart
  pub IsDistinct-alike : (other : X → X → Bool) → ((x y : X) → other x y ≡ like x y) → (xs : List X) → IsDistinct like xs → IsDistinct other xs
  IsDistinct-alike other same [] h = IsDistinct-nil other
  IsDistinct-alike other same (x ∷ xs) h =
      IsDistinct-cons other x xs
      (all-weaker (λ y. like x y ≡ false) (λ y. other x y ≡ false) (λ y e. same x y ∙ e) xs (IsDistinct-head like x xs h))
      (IsDistinct-alike other same xs (IsDistinct-tail like x xs h))

  -- what is made of elements that differ, where it keeps what they are distinguished by
  pub IsDistinct-mapped : {Y : Type 0} (alike : Y → Y → Bool) (f : X → Y) → ((x y : X) → alike (f x) (f y) ≡ like x y) → (xs : List X) → IsDistinct like xs → IsDistinct alike (map f xs)
  IsDistinct-mapped alike f agrees xs h = IsDistinct-map f alike xs (IsDistinct-alike (λ x y. alike (f x) (f y)) agrees xs h)

  -- a change that the test doesn't see
  pub IsDistinct-changed : (f : X → X) → ((x y : X) → like (f x) (f y) ≡ like x y) → (xs : List X) → IsDistinct like xs → IsDistinct like (map f xs)
  IsDistinct-changed f same xs h = IsDistinct-mapped like f same xs h
