-- Laws of routing trees.
use Rattle.std.proofs.Common.{◌≡◌, ℕ, ◌+◌, ◌-◌, ◌<◌, ◌≤◌, zero, suc, inl, inr, Bool, true, false, cond, not, ◌&&◌, ◌||◌, List, [], ◌∷◌}
use Rattle.std.proofs.Common.{◌++◌, Option, map, refl, sym, ap, ◌∙◌, arith}
use Rattle.std.specs.Prelude.{nat_eq, nat_le, unwrap_or}
use Rattle.std.specs.List.{list_any}
use Rattle.std.proofs.lemmas.Bool.{cases_lt, eq-eqb, le-leb, lt-leb, ne_eqb}
use Rattle.std.proofs.lemmas.List.{map-append}
use Rattle.std.proofs.lemmas.List.Folds.{list_any-append}
use Rattle.am_alerts.specs.Forest.{Forest, bare, grow, count, level, listed}
use Rattle.am_alerts.specs.Matcher.{match_all}
use Rattle.am_alerts.specs.Nested.{nested_of, settled, settled_below, settled_route}
use Rattle.am_alerts.specs.RoutingTree.{RoutingTree, TreeRoute, children_of, last_of, matching, matching_from, or_self, plain, routes_of}
use Rattle.am_alerts.specs.RoutingTree.{tree_of}
use Rattle.am_alerts.specs.TreeLaws.{IsNearest, any_match, is_reached, nearest, reaches}
use Rattle.am_alerts.specs.declared.labels.Label.{Label}
use Rattle.am_alerts.specs.declared.route.Child.{Child}
use Rattle.am_alerts.specs.declared.route.Route.{Route}
use Rattle.am_alerts.specs.declared.tree.RouteSpec.{RouteSpec}
use Rattle.am_alerts.proofs.Positions.{Ascend, matching-ascend}

-- ---- one level

matching_level : (p : ℕ) (cs : List Child) (labels : List Label) → matching p (level (map plain cs)) labels ≡ matching_from p cs labels
matching_level p [] labels = refl
matching_level p (c ∷ cs) labels =
    let e : p + 1 + 0 ≡ p + 1 = omega arith in
    ap (λ later. cond (match_all c.matchers labels) (p ∷ cond c.continues later []) later)
    (ap (λ n. matching n (level (map plain cs)) labels) e ∙ matching_level (p + 1) cs labels)

pub tried_in_order : (root : Route) (cs : List Child) (labels : List Label) →
    routes_of (tree_of root cs) labels ≡ or_self 0 (matching_from 1 cs labels)
tried_in_order root cs labels = ap (or_self 0) (matching_level 1 cs labels)

-- ---- options

children_map : {A : Type 0} (g : Child → A) (rs : List TreeRoute) → map g (map (λ r. r.child) rs) ≡ map (λ r. g r.child) rs
children_map g [] = refl
children_map g (r ∷ rs) = ap (λ xs. g r.child ∷ xs) (children_map g rs)

module _ {A : Type 0} (option : Route → A) (said : RouteSpec → Option A)
    (own : (above : Route) (r : RouteSpec) → option (settled above r) ≡ unwrap_or (said r) (option above)) where
  nearest-below : (above : Route) (f : Forest RouteSpec)
      → map (λ r. option r.child.route) (listed (settled_below above f)) ≡ nearest said (option above) f
  nearest-below above bare = refl
  nearest-below above (grow r below after) =
      let g = λ (t : TreeRoute). option t.child.route in
      let inner = settled_below (settled above r) below in
      let outer = settled_below above after in
      ap (λ xs. option (settled above r) ∷ xs) (map-append g (listed inner) (listed outer)
      ∙ ap (λ xs. xs ++ map g (listed outer)) (nearest-below (settled above r) below)
      ∙ ap (λ xs. nearest said (option (settled above r)) below ++ xs) (nearest-below above after))
      ∙ ap (λ o. o ∷ (nearest said o below ++ nearest said (option above) after)) (own above r)

  pub is_nearest : IsNearest option said
  is_nearest root rules =
      children_map (λ (c : Child). option c.route) (listed (settled_below root rules)) ∙ nearest-below root rules

-- what is a route's own
module _ {A : Type 0} (of_route : TreeRoute → A) (of_rule : RouteSpec → A)
    (same : (above : Route) (r : RouteSpec) → of_route (settled_route above r) ≡ of_rule r) where
  pub own-below : (above : Route) (f : Forest RouteSpec) → map of_route (listed (settled_below above f)) ≡ map of_rule (listed f)
  own-below above bare = refl
  own-below above (grow r below after) =
      let inner = settled_below (settled above r) below in
      let outer = settled_below above after in
      ap (λ x. x ∷ map of_route (listed inner ++ listed outer)) (same above r)
      ∙ ap (λ xs. of_rule r ∷ xs) (map-append of_route (listed inner) (listed outer)
      ∙ ap (λ xs. xs ++ map of_route (listed outer)) (own-below (settled above r) below)
      ∙ ap (λ xs. map of_rule (listed below) ++ xs) (own-below above after)
      ∙ sym (map-append of_rule (listed below) (listed after)))

pub is_own : {A : Type 0} (of_child : Child → A) (of_rule : RouteSpec → A)
    → ((above : Route) (r : RouteSpec) → of_child (settled_route above r).child ≡ of_rule r) → (root : Route) (rules : Forest RouteSpec)
    → map of_child (children_of (nested_of root rules)) ≡ map of_rule (listed rules)
is_own of_child of_rule same root rules =
    children_map of_child (listed (settled_below root rules)) ∙ own-below (λ r. of_child r.child) of_rule same root rules

-- ---- each route is reached or not

abbrev has : ℕ → List ℕ → Bool
has p ps = list_any (λ q. nat_eq q p) ps

-- what isn't between the bounds of ascending numbers isn't one of them
has-below : (low high q : ℕ) (xs : List ℕ) → q < low → Ascend low high xs → has q xs ≡ false
has-below low high q [] under a = refl
has-below low high q (x ∷ xs) under a =
    ap (λ b. b || has q xs) (ne_eqb x q (λ e. omega (arith, a.0))) ∙ has-below (x + 1) high q xs (omega (arith, a.0)) a.1

ascend-bounds : (low high : ℕ) (xs : List ℕ) → Ascend low high xs → low ≤ high
ascend-bounds low high [] a = a
ascend-bounds low high (x ∷ xs) a = omega (arith, a.0, ascend-bounds (x + 1) high xs a.1)

has-above : (low high q : ℕ) (xs : List ℕ) → high ≤ q → Ascend low high xs → has q xs ≡ false
has-above low high q [] over a = refl
has-above low high q (x ∷ xs) over a =
    let under : x + 1 ≤ high = ascend-bounds (x + 1) high xs a.1 in
    ap (λ b. b || has q xs) (ne_eqb x q (λ e. omega arith)) ∙ has-above (x + 1) high q xs over a.1

has-append : (q : ℕ) (xs ys : List ℕ) → has q (xs ++ ys) ≡ (has q xs || has q ys)
has-append q xs ys = list_any-append (λ p. nat_eq p q) xs ys

-- whether there are none
abbrev is_none : List ℕ → Bool
is_none [] = true
is_none (p ∷ ps) = false

none-self : (s : ℕ) (xs ys : List ℕ) → is_none (or_self s xs ++ ys) ≡ false
none-self s [] ys = refl
none-self s (x ∷ xs) ys = refl

any_match-is : (p : ℕ) (f : Forest TreeRoute) (labels : List Label) → any_match f labels ≡ not (is_none (matching p f labels))
any_match-is p bare labels = refl
any_match-is p (grow r below after) labels =
    by (match_all r.child.matchers labels) r.child.continues (any_match-is (p + 1 + count below) after labels)
  where
    by : (m on : Bool) → any_match after labels ≡ not (is_none (matching (p + 1 + count below) after labels))
        → (m || any_match after labels)
        ≡ not (is_none (cond m (or_self p (matching (p + 1) below labels) ++ cond on (matching (p + 1 + count below) after labels) [])
        (matching (p + 1 + count below) after labels)))
    by true on h = sym (ap not (none-self p (matching (p + 1) below labels) (cond on (matching (p + 1 + count below) after labels) [])))
    by false on h = h

-- a route itself is found where none right below it matches
has-self : (s high : ℕ) (xs : List ℕ) → Ascend (s + 1) high xs → has s (or_self s xs) ≡ is_none xs
has-self s high [] a = ap (λ b. b || false) (eq-eqb s s refl)
has-self s high (x ∷ xs) a = has-below (s + 1) high s (x ∷ xs) (omega arith) a

-- those below it are found as they are
has-others : (s q : ℕ) (xs : List ℕ) → s < q → has q (or_self s xs) ≡ has q xs
has-others s q [] behind = ap (λ b. b || false) (ne_eqb s q (λ e. omega arith))
has-others s q (x ∷ xs) behind = refl

not-not : (b : Bool) → not (not b) ≡ b
not-not true = refl
not-not false = refl

or_false : (b : Bool) → (b || false) ≡ b
or_false true = refl
or_false false = refl

module _ (r : TreeRoute) (below after : Forest TreeRoute) (labels : List Label) (s : ℕ) where
  abbrev inner : List ℕ
  inner = matching (s + 1) below labels

  abbrev later : List ℕ
  later = matching (s + 1 + count below) after labels

  inner-ascend : Ascend (s + 1) (s + 1 + count below) (matching (s + 1) below labels)
  inner-ascend = matching-ascend (s + 1) below labels

  later-ascend : Ascend (s + 1 + count below) (s + 1 + count below + count after) (matching (s + 1 + count below) after labels)
  later-ascend = matching-ascend (s + 1 + count below) after labels

  no_later : (q : ℕ) → q < s + 1 + count below → (on : Bool) → has q (cond on later []) ≡ false
  no_later q under true = has-below (s + 1 + count below) (s + 1 + count below + count after) q later under later-ascend
  no_later q under false = refl

  -- the route itself
  at_self : (m on : Bool) → has s (cond m (or_self s inner ++ cond on later []) later) ≡ (m && not (any_match below labels))
  at_self true on =
      has-append s (or_self s inner) (cond on later [])
      ∙ ap (λ b. has s (or_self s inner) || b) (no_later s (omega arith) on)
      ∙ or_false (has s (or_self s inner))
      ∙ has-self s (s + 1 + count below) inner inner-ascend
      ∙ sym (not-not (is_none inner))
      ∙ sym (ap not (any_match-is (s + 1) below labels))
  at_self false on = no_later s (omega arith) true

  -- one below it
  at_below : (m on : Bool) (q : ℕ) → s < q → q < s + 1 + count below
      → has q (cond m (or_self s inner ++ cond on later []) later) ≡ (m && has q inner)
  at_below true on q behind under =
      has-append q (or_self s inner) (cond on later [])
      ∙ ap (λ b. has q (or_self s inner) || b) (no_later q under on)
      ∙ or_false (has q (or_self s inner))
      ∙ has-others s q inner behind
  at_below false on q behind under = no_later q under true

  -- one after it
  at_after : (m on : Bool) (q : ℕ) → s + 1 + count below ≤ q
      → has q (cond m (or_self s inner ++ cond on later []) later) ≡ (not (m && not on) && has q later)
  at_after true on q past =
      has-append q (or_self s inner) (cond on later [])
      ∙ ap (λ b. b || has q (cond on later [])) (has-others s q inner (omega arith)
      ∙ has-above (s + 1) (s + 1 + count below) q inner past inner-ascend)
      ∙ goes on
    where
      goes : (on : Bool) → has q (cond on later []) ≡ (not (not on) && has q later)
      goes true = refl
      goes false = refl
  at_after false on q past = refl

reaches-is : (s k : ℕ) (f : Forest TreeRoute) (labels : List Label) → has (s + k) (matching s f labels) ≡ reaches k f labels
reaches-is s k bare labels = refl
reaches-is s zero (grow r below after) labels =
    let e : s + 0 ≡ s = omega arith in
    ap (λ q. has q (matching s (grow r below after) labels)) e
    ∙ at_self r below after labels s (match_all r.child.matchers labels) r.child.continues
reaches-is s (suc k) (grow r below after) labels =
    let m = match_all r.child.matchers labels in
    let on = r.child.continues in
    elim (cases_lt (count below) (suc k)) [
      | inr within ↦
          let q : s + suc k ≡ s + 1 + (suc k - 1) = omega arith in
          at_below r below after labels s m on (s + suc k) (omega arith) (omega arith)
          ∙ ap (λ n. m && has n (matching (s + 1) below labels)) q
          ∙ ap (λ b. m && b) (reaches-is (s + 1) (suc k - 1) below labels)
          ∙ sym (ap (λ b. cond b (m && reaches (suc k - 1) below labels)
          (not (m && not on) && reaches (suc k - 1 - count below) after labels)) (le-leb (suc k) (count below) within))
          ∙ sym (ap (λ b. cond b (m && not (any_match below labels))
          (cond (nat_le (suc k) (count below)) (m && reaches (suc k - 1) below labels)
          (not (m && not on) && reaches (suc k - 1 - count below) after labels))) (ne_eqb (suc k) 0 (λ e. omega arith)))
      | inl past ↦
          let q : s + suc k ≡ s + 1 + count below + (suc k - 1 - count below) = omega arith in
          at_after r below after labels s m on (s + suc k) (omega arith)
          ∙ ap (λ n. not (m && not on) && has n (matching (s + 1 + count below) after labels)) q
          ∙ ap (λ b. not (m && not on) && b) (reaches-is (s + 1 + count below) (suc k - 1 - count below) after labels)
          ∙ sym (ap (λ b. cond b (m && reaches (suc k - 1) below labels)
          (not (m && not on) && reaches (suc k - 1 - count below) after labels)) (lt-leb (suc k) (count below) past))
          ∙ sym (ap (λ b. cond b (m && not (any_match below labels))
          (cond (nat_le (suc k) (count below)) (m && reaches (suc k - 1) below labels)
          (not (m && not on) && reaches (suc k - 1 - count below) after labels))) (ne_eqb (suc k) 0 (λ e. omega arith)))
    ]

pub reached_or_not : (tree : RoutingTree) (labels : List Label) (p : ℕ) → p ≤ last_of tree
    → list_any (λ q. nat_eq q p) (routes_of tree labels) ≡ is_reached tree labels p
reached_or_not tree labels zero within =
    has-self 0 (1 + last_of tree) (matching 1 tree.below labels) (matching-ascend 1 tree.below labels)
    ∙ sym (not-not (is_none (matching 1 tree.below labels))) ∙ sym (ap not (any_match-is 1 tree.below labels))
reached_or_not tree labels (suc p) within =
    let e : suc p ≡ 1 + (suc p - 1) = omega arith in
    has-others 0 (suc p) (matching 1 tree.below labels) (omega arith)
    ∙ ap (λ q. has q (matching 1 tree.below labels)) e ∙ reaches-is 1 (suc p - 1) tree.below labels
    ∙ sym (ap (λ b. cond b (not (any_match tree.below labels)) (reaches (suc p - 1) tree.below labels))
    (ne_eqb (suc p) 0 (λ e. omega arith)))
