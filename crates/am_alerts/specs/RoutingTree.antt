-- The routing tree. An alert goes down to the first child that matches, and to the next ones while those before have `continue`;
-- where no child matches, the route itself gets it.
use Rattle.std.specs.Prelude.{ℕ, ◌+◌, ◌-◌, Bool, not, ◌&&◌, List, [], ◌∷◌, ◌++◌, length, map, slice_index_or, codes, nat_le, Option, Some}
use Rattle.std.specs.Prelude.{None}
use Rattle.std.specs.Prelude.{if◌then◌else◌}
use Rattle.std.specs.List.{list_all}
use Rattle.std.specs.Str.{bytes_eq}
use Rattle.am_alerts.specs.Forest.{Forest, bare, grow, count, height, listed, level}
use Rattle.am_alerts.specs.Labels.{is_label_name, has_text_twice}
use Rattle.am_alerts.specs.Layout.{preorder}
use Rattle.am_alerts.specs.Matcher.{match_all}
use Rattle.am_alerts.specs.Route.{has_grouping_names, has_few_names, has_good_intervals}
use Rattle.am_alerts.specs.declared.labels.Label.{Label}
use Rattle.am_alerts.specs.declared.route.Route.{Route}
use Rattle.am_alerts.specs.declared.route.Child.{Child}
use Rattle.am_alerts.specs.declared.route.RouteFault.{RouteFault}
use Rattle.am_alerts.specs.declared.spans.Span.{Span}
use Rattle.am_alerts.specs.declared.route.RouteFault.TheVariants.{BadName, Twice, TooMany, BadInterval}
use Rattle.am_alerts.specs.declared.limits.TheConstants.{MAX_CHILDREN, MAX_DEPTH, MAX_MATCHERS, MAX_ROUTES}

-- a route below the root, and the spans of time in which it is muted
pub record TreeRoute : Type 0 where
  pub child : Child
  pub muted : List Span

-- a routing tree as contracts see it
pub record RoutingTree : Type 0 where
  pub root : Route
  pub below : Forest TreeRoute

-- a route below the root that is never muted
abbrev pub plain : Child → TreeRoute
plain c = record { child = c; muted = [] }

-- a root and its children as a routing tree: one level
abbrev pub tree_of : Route → List Child → RoutingTree
tree_of root children = record { root = root; below = level (map plain children) }

-- the routes below the root, which are at positions 1, 2, ..
abbrev pub children_of : RoutingTree → List Child
children_of tree = map (λ r. r.child) (listed tree.below)

-- the last position
abbrev pub last_of : RoutingTree → ℕ
last_of tree = count tree.below

-- all its routes, by their positions: the root is at position 0
abbrev pub routes_in : RoutingTree → List Route
routes_in tree = tree.root ∷ map (λ c. c.route) (children_of tree)

-- the route at a position
abbrev pub route_at : RoutingTree → ℕ → Route
route_at tree position = slice_index_or (routes_in tree) position tree.root

-- how many routes are below the one at a position, which isn't the root's: they are at the positions right behind it
abbrev pub below_at : RoutingTree → ℕ → ℕ
below_at tree position = slice_index_or (map (λ t. t.1) (preorder tree.below)) (position - 1) 0

-- these positions, or this one where there is none
abbrev pub or_self : ℕ → List ℕ → List ℕ
or_self self [] = self ∷ []
or_self self (p ∷ ps) = p ∷ ps

-- the positions of the routes that match, the first of these routes at this position: they are tried in order; one that matches gives
-- those below it that match, or itself where none does, and ends the search among its siblings unless it has `continue`
-- (dispatch.Route.Match)
abbrev pub matching : ℕ → Forest TreeRoute → List Label → List ℕ
matching position bare labels = []
matching position (grow r below after) labels =
    let later = matching (position + 1 + count below) after labels in
    if match_all r.child.matchers labels
    then or_self position (matching (position + 1) below labels) ++ (if r.child.continues then later else [])
    else later

-- routes: the positions of a label set's routes, ascending, as Alertmanager's dispatcher finds them; the root alone where none matches
abbrev pub routes_of : RoutingTree → List Label → List ℕ
routes_of tree labels = or_self 0 (matching 1 tree.below labels)

-- of one level: the positions of the children that match, the first of them at this position; a match without `continue` ends the search
abbrev pub matching_from : ℕ → List Child → List Label → List ℕ
matching_from position [] labels = []
matching_from position (c ∷ cs) labels =
    if match_all c.matchers labels
    then position ∷ (if c.continues then matching_from (position + 1) cs labels else [])
    else matching_from (position + 1) cs labels

-- whether a child's name and its grouping names are label names
abbrev pub has_good_child_names : Child → Bool
has_good_child_names c = is_label_name c.route.name && has_grouping_names c.route

-- whether the root is named `root`, and the names of the routes below it and all grouping names are label names
abbrev pub has_good_names : Route → List Child → Bool
has_good_names root children =
    bytes_eq root.name (codes "root") && has_grouping_names root && list_all has_good_child_names children

-- whether two routes have one name
abbrev pub has_route_twice : Route → List Child → Bool
has_route_twice root children = has_text_twice (root.name ∷ map (λ c. c.route.name) children)

-- whether a child's grouping names and its matchers are within their limits
abbrev pub is_small_child : Child → Bool
is_small_child c = has_few_names c.route && nat_le (length c.matchers) MAX_MATCHERS

-- whether the grouping names and the matchers of each route are within their limits
abbrev pub are_small : Route → List Child → Bool
are_small root children = has_few_names root && list_all is_small_child children

-- whether the durations of each route are good
abbrev pub have_good_intervals : Route → List Child → Bool
have_good_intervals root children = has_good_intervals root && list_all (λ c. has_good_intervals c.route) children

-- why a root and the routes below it are no routing tree; `fits`: whether these are few and are at few levels
abbrev pub fault_where : Bool → Route → List Child → Option RouteFault
fault_where fits root children =
    if not (has_good_names root children) then Some BadName
    else (if has_route_twice root children then Some Twice
    else (if not (fits && are_small root children) then Some TooMany
    else (if not (have_good_intervals root children) then Some BadInterval else None)))

-- whether at most this many routes are below the root, at this many levels
abbrev pub is_within : ℕ → ℕ → RoutingTree → Bool
is_within most deepest tree = nat_le (last_of tree) most && nat_le (height tree.below) deepest

-- why a root and its children are no routing tree of one level
abbrev pub level_fault : RoutingTree → Option RouteFault
level_fault tree = fault_where (is_within MAX_CHILDREN 1 tree) tree.root (children_of tree)

-- why a root and the routes below it are no routing tree
abbrev pub tree_fault : RoutingTree → Option RouteFault
tree_fault tree = fault_where (is_within MAX_ROUTES MAX_DEPTH tree) tree.root (children_of tree)
