-- Routing trees.
use Rattle.std.proofs.Common.{Bool, ◌≡◌, ℕ, ◌+◌, ◌<◌, ◌≤◌, ◌-◌, zero, suc, true, false, ◌&&◌, ◌||◌, IsTrue, List, [], ◌∷◌, length, map}
use Rattle.std.proofs.Common.{filter, get_or, drop, None, sym, refl, ap, ◌∙◌, arith}
use Rattle.std.specs.List.{list_all, list_any}
use Rattle.std.specs.Str.{bytes_eq}
use Rattle.std.proofs.lemmas.Bool.Decides.{nat_tests}
use Rattle.std.specs.Prelude.{nat_le}
use Rattle.std.proofs.lemmas.Bool.{leb-true}
use Rattle.std.proofs.lemmas.List.{at_drop_more, length-map, get_or-map}
use Rattle.std.proofs.lemmas.List.Folds.{list_all-map}
use Rattle.std.proofs.lemmas.List.Sums.{AllPass-from_list_all}
use Rattle.am_alerts.specs.declared.labels.Label.{Label}
use Rattle.am_alerts.specs.declared.route.Child.{Child}
use Rattle.am_alerts.specs.declared.route.Route.{Route}
use Rattle.am_alerts.specs.declared.route.GroupBy.TheVariants.{All}
use Rattle.am_alerts.specs.declared.limits.TheConstants.{MAX_ROUTES, MAX_DEPTH}
use Rattle.am_alerts.specs.Labels.{has_text_twice, occurs_in}
use Rattle.am_alerts.specs.Route.{groups_by, has_good_intervals}
use Rattle.am_alerts.specs.Forest.{height, listed}
use Rattle.am_alerts.specs.RoutingTree.{RoutingTree, TreeRoute, children_of, fault_where, have_good_intervals, is_within, last_of}
use Rattle.am_alerts.specs.RoutingTree.{routes_in, route_at, tree_fault}
use Rattle.am_alerts.proofs.Layouts.{length_listed}

-- ---- what a tree without a fault keeps

good_intervals-all : (fits : Bool) (root : Route) (children : List Child) → fault_where fits root children ≡ None
    → have_good_intervals root children ≡ true
good_intervals-all fits root children none = grind (arith, nat_tests)

-- the durations of the route at a position
pub good_intervals-at : (tree : RoutingTree) (position : ℕ) → tree_fault tree ≡ None → position ≤ last_of tree
    → IsTrue (has_good_intervals (route_at tree position))
good_intervals-at tree position none within =
    let all : list_all has_good_intervals (routes_in tree) ≡ true =
    ap (λ b. has_good_intervals tree.root && b) (list_all-map has_good_intervals (λ (c : Child). c.route) (children_of tree))
    ∙ good_intervals-all (is_within MAX_ROUTES MAX_DEPTH tree) tree.root (children_of tree) none in
    AllPass-from_list_all has_good_intervals (routes_in tree) all position tree.root
    (omega (
      arith,
      length-map (children_of tree) (λ (c : Child). c.route),
      length-map (listed tree.below) (λ (r : TreeRoute). r.child),
      length_listed tree.below,
    ))

-- the route of a child at its position
pub child_at : (tree : RoutingTree) (cs : List Child) (position : ℕ) (d : Child) → children_of tree ≡ cs → 0 < position
    → position ≤ length cs → (get_or cs (position - 1) d).route ≡ route_at tree position
child_at tree cs zero d same some within = absurd (omega arith)
child_at tree cs (suc k) d same some within =
    let e : suc k - 1 ≡ k = omega arith in
    ap (λ i. (get_or cs i d).route) e ∙ sym (get_or-map (λ (c : Child). c.route) cs k d tree.root (omega arith))
    ∙ ap (λ ds. get_or (map (λ (c : Child). c.route) ds) k tree.root) (sym same)

few-all : (fits small : Bool) → (fits && small) ≡ true → fits ≡ true
few-all true small e = refl
few-all false small e = e

pub fits-none : (fits : Bool) (root : Route) (children : List Child) → fault_where fits root children ≡ None → fits ≡ true
fits-none fits root children none = grind (arith, nat_tests)

pub few_routes : (tree : RoutingTree) → tree_fault tree ≡ None → last_of tree ≤ MAX_ROUTES
few_routes tree none =
    leb-true (last_of tree) MAX_ROUTES
    (few-all (nat_le (last_of tree) MAX_ROUTES) (nat_le (height tree.below) MAX_DEPTH)
    (fits-none (is_within MAX_ROUTES MAX_DEPTH tree) tree.root (children_of tree) none))

-- a group by all labels has them all
pub filter-groups_by_all : (labels : List Label) → filter (groups_by All) labels ≡ labels
filter-groups_by_all [] = refl
filter-groups_by_all (l ∷ ls) = ap (λ r. l ∷ r) (filter-groups_by_all ls)

-- ---- names that are twice

-- a name is among the names of children where a child has it
pub occurs_in-children : (name : List ℕ) (cs : List Child)
    → occurs_in name (map (λ c. c.route.name) cs) ≡ list_any (λ c. bytes_eq c.route.name name) cs
occurs_in-children name [] = refl
occurs_in-children name (c ∷ cs) = ap (λ r. bytes_eq c.route.name name || r) (occurs_in-children name cs)

module _ (cs : List Child) (i : ℕ) (d : Child) (within : i < length cs)
    (same : has_text_twice (map (λ c. c.route.name) (drop i cs)) ≡ has_text_twice (map (λ c. c.route.name) cs)) where
  twice-drop : has_text_twice (map (λ c. c.route.name) (drop i cs))
      ≡ (occurs_in (get_or cs i d).route.name (map (λ c. c.route.name) (drop (i + 1) cs))
      || has_text_twice (map (λ c. c.route.name) (drop (i + 1) cs)))
  twice-drop = at_drop_more (λ xs. has_text_twice (map (λ c. c.route.name) xs)) cs i d within

  -- the name of the child at an index comes again
  pub twice-found : list_any (λ c. bytes_eq c.route.name (get_or cs i d).route.name) (drop (i + 1) cs) ≡ true
      → true ≡ has_text_twice (map (λ c. c.route.name) cs)
  twice-found again =
      sym (sym same ∙ twice-drop ∙ ap (λ b. b || has_text_twice (map (λ c. c.route.name) (drop (i + 1) cs)))
      (occurs_in-children (get_or cs i d).route.name (drop (i + 1) cs) ∙ again))

  -- it doesn't come again
  pub twice-once : list_any (λ c. bytes_eq c.route.name (get_or cs i d).route.name) (drop (i + 1) cs) ≡ false
      → has_text_twice (map (λ c. c.route.name) (drop (i + 1) cs)) ≡ has_text_twice (map (λ c. c.route.name) cs)
  twice-once once =
      sym (sym same ∙ twice-drop ∙ ap (λ b. b || has_text_twice (map (λ c. c.route.name) (drop (i + 1) cs)))
      (occurs_in-children (get_or cs i d).route.name (drop (i + 1) cs) ∙ once))
