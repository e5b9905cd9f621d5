-- How many groups have no alerts, where a group is written, added or removed.
use Rattle.std.proofs.Common.{◌≡◌, ℕ, suc, zero, ◌+◌, ◌<◌, ◌≤◌, Bool, true, false, cond, not, Some, List, [], ◌∷◌, ◌++◌, length, ltb, ◌||◌, map, filter, set, slice_get, refl, sym, ap, ◌∙◌, arith}
use Rattle.std.specs.List.{count_by, list_any}
use Rattle.std.specs.Map.{values_of}
use Rattle.std.proofs.lemmas.Bool.{lt-ltb}
use Rattle.std.proofs.lemmas.List.Sums.{sum_by-cons}
use Rattle.indexmap.specs.Layout.{set_value_at}
use Rattle.am_nflog.specs.Members.{is_empty}
use Rattle.am_model.specs.Lists.{upsert}
use Rattle.am_model.specs.Maintenance.{has_no_alerts}
use Rattle.am_model.specs.declared.group.GroupName.{GroupName}
use Rattle.am_board.specs.Empty.{is_bare, IsCounted}
use Rattle.am_board.specs.Group.{label_sets}
use Rattle.am_board.specs.Members.{labels_of}
use Rattle.am_board.specs.Refinement.{group_state, member_state}
use Rattle.am_board.specs.declared.group.Group.{Group}
use Rattle.am_board.specs.declared.group.Member.{Member}
use Rattle.am_board.proofs.lemmas.invariant.Keyed.{length-values, values-set}

abbrev pub empties : List Group → ℕ
empties gs = count_by is_bare gs

-- by how many a group raises the count
abbrev weight : Group → ℕ
weight g = cond (is_bare g) 1 0

-- a group is stored without alerts where its state has none
pub bare-state : (g : Group) → is_bare g ≡ has_no_alerts (group_state g)
bare-state g = by g.members.items
  where
    by : (ms : List Member) → is_empty ms ≡ is_empty (map member_state ms)
    by [] = refl
    by (m ∷ ms) = refl

pub bare-states : (g h : Group) → has_no_alerts (group_state g) ≡ has_no_alerts (group_state h) → is_bare g ≡ is_bare h
bare-states g h same = bare-state g ∙ same ∙ sym (bare-state h)

weight-is : (g : Group) (b : Bool) → is_bare g ≡ b → weight g ≡ cond b 1 0
weight-is g b e = ap (λ c. cond c 1 0) e

weight-most : (g : Group) → weight g ≤ 1
weight-most g = elim (is_bare g) as (λ b. cond b 1 0 ≤ 1) [ true ↦ omega arith | false ↦ omega arith ]

empties-cons : (g : Group) (gs : List Group) → empties (g ∷ gs) ≡ weight g + empties gs
empties-cons g gs = sum_by-cons weight g gs

-- a group is written
empties-set : (gs : List Group) (i : ℕ) (was now : Group) → slice_get gs i ≡ Some was → empties (set gs i now) + weight was ≡ empties gs + weight now
empties-set [] i was now at = absurd (cc)
empties-set (g ∷ gs) zero was now at =
    let same : g ≡ was = cc in
    let one : weight g ≡ weight was = ap weight same in
    omega (arith, one, empties-cons g gs, empties-cons now gs)
empties-set (g ∷ gs) (suc i) was now at =
    omega (arith, empties-set gs i was now at, empties-cons g gs, empties-cons g (set gs i now))

-- one without alerts counts
empties-has : (gs : List Group) (i : ℕ) (was : Group) → slice_get gs i ≡ Some was → weight was ≤ empties gs
empties-has [] i was at = absurd (cc)
empties-has (g ∷ gs) zero was at =
    let same : g ≡ was = cc in
    let one : weight g ≡ weight was = ap weight same in
    omega (arith, one, empties-cons g gs)
empties-has (g ∷ gs) (suc i) was at = omega (arith, empties-has gs i was at, empties-cons g gs)

empties-most : (gs : List Group) → empties gs ≤ length gs
empties-most [] = omega arith
empties-most (g ∷ gs) = omega (arith, empties-cons g gs, empties-most gs, weight-most g)

-- one with alerts doesn't
empties-fewer : (gs : List Group) (i : ℕ) (was : Group) → slice_get gs i ≡ Some was → empties gs + 1 ≤ length gs + weight was
empties-fewer [] i was at = absurd (cc)
empties-fewer (g ∷ gs) zero was at =
    let same : g ≡ was = cc in
    let one : weight g ≡ weight was = ap weight same in
    omega (arith, one, empties-cons g gs, empties-most gs)
empties-fewer (g ∷ gs) (suc i) was at = omega (arith, empties-cons g gs, empties-fewer gs i was at, weight-most g)

-- one with alerts is added
pub empties-push : (gs : List Group) (g : Group) → is_bare g ≡ false → empties (gs ++ g ∷ []) ≡ empties gs
empties-push [] g bare = empties-cons g [] ∙ ap (λ n. n + empties []) (weight-is g false bare)
empties-push (h ∷ gs) g bare = empties-cons h (gs ++ g ∷ []) ∙ ap (λ n. weight h + n) (empties-push gs g bare) ∙ sym (empties-cons h gs)

-- those without alerts go
pub empties-gone : (gs : List Group) → empties (filter (λ g. not (has_no_alerts (group_state g))) gs) ≡ 0
empties-gone [] = refl
empties-gone (g ∷ gs) = by (has_no_alerts (group_state g)) (bare-state g) (empties-gone gs)
  where
    rest : List Group
    rest = filter (λ h. not (has_no_alerts (group_state h))) gs

    by : (b : Bool) → is_bare g ≡ b → empties rest ≡ 0 → empties (cond (not b) (g ∷ rest) rest) ≡ 0
    by true e none = none
    by false e none = omega (arith, empties-cons g rest, weight-is g false e, none)

-- there is one exactly where they are counted
abbrev pub any_of : List Group → Bool
any_of gs = list_any has_no_alerts (map group_state gs)

pub any_empty : (gs : List Group) → ltb 0 (empties gs) ≡ any_of gs
any_empty [] = refl
any_empty (g ∷ gs) = ap (ltb 0) (empties-cons g gs) ∙ by (is_bare g) (any_empty gs) ∙ ap (λ b. b || any_of gs) (bare-state g)
  where
    by : (b : Bool) → ltb 0 (empties gs) ≡ any_of gs → ltb 0 (cond b 1 0 + empties gs) ≡ (b || any_of gs)
    by true same = lt-ltb 0 (1 + empties gs) (omega arith)
    by false same = let none : 0 + empties gs ≡ empties gs = omega arith in ap (ltb 0) none ∙ same

-- ---- the count that is kept

module _ (n : ℕ) (es : List (GroupName × Group)) (i : ℕ) (was now : Group) (counted : IsCounted n es) (at : slice_get (values_of es) i ≡ Some was) where
  -- by as many as the group changes the count
  pub counted_change : (m : ℕ) → m + cond (is_bare was) 1 0 ≡ n + cond (is_bare now) 1 0 → IsCounted m (set_value_at es i now)
  counted_change m changed =
      let set_is : empties (values_of (set_value_at es i now)) ≡ empties (set (values_of es) i now) = ap empties (values-set es i now) in
      omega (arith, set_is, empties-set (values_of es) i was now at, counted, changed)

  pub counted_same : is_bare now ≡ is_bare was → IsCounted n (set_value_at es i now)
  counted_same same = counted_change n (ap (λ b. n + cond b 1 0) (sym same))

  pub counted_has : is_bare was ≡ true → 0 < n
  counted_has bare = omega (arith, counted, empties-has (values_of es) i was at, weight-is was true bare)

  pub counted_fewer : is_bare was ≡ false → n < length es
  counted_fewer bare = omega (arith, counted, empties-fewer (values_of es) i was at, length-values es, weight-is was false bare)

-- ---- what leaves a group without alerts, or with some

-- an alert that was put among others is there
pub upsert-some : {X : Type 0} (like : X → X → Bool) (x : X) (xs : List X) → is_empty (upsert like x xs) ≡ false
upsert-some like x [] = refl
upsert-some like x (y ∷ ys) = by (like x y)
  where
    by : (b : Bool) → is_empty (cond b (x ∷ ys) (y ∷ upsert like x ys)) ≡ false
    by true = refl
    by false = refl

-- groups with the same label sets are both without alerts, or neither
pub bare-labels : (g h : Group) → label_sets g ≡ label_sets h → is_bare g ≡ is_bare h
bare-labels g h same = by g.members.items h.members.items same
  where
    by : (xs ys : List Member) → map labels_of xs ≡ map labels_of ys → is_empty xs ≡ is_empty ys
    by [] [] e = refl
    by [] (y ∷ ys) e = absurd (cc)
    by (x ∷ xs) [] e = absurd (cc)
    by (x ∷ xs) (y ∷ ys) e = refl
