-- Laws of routing trees.
use Rattle.std.specs.Prelude.{◌≡◌, ℕ, ◌-◌, ◌≤◌, Bool, false, not, ◌&&◌, ◌||◌, List, [], ◌∷◌, ◌++◌, Option, map, nat_eq, nat_le, unwrap_or}
use Rattle.std.specs.Prelude.{if◌then◌else◌}
use Rattle.std.specs.List.{list_any}
use Rattle.am_alerts.specs.Forest.{Forest, bare, grow, count, listed}
use Rattle.am_alerts.specs.Matcher.{match_all}
use Rattle.am_alerts.specs.Nested.{nested_of}
use Rattle.am_alerts.specs.RoutingTree.{RoutingTree, TreeRoute, children_of, last_of, matching_from, or_self, routes_of, tree_of}
use Rattle.am_alerts.specs.declared.labels.Label.{Label}
use Rattle.am_alerts.specs.declared.route.Child.{Child}
use Rattle.am_alerts.specs.declared.route.Route.{Route}
use Rattle.am_alerts.specs.declared.tree.RouteSpec.{RouteSpec}

-- law: of one level, children are tried in order; the root is alone where none matches
abbrev pub OneLevelIsTriedInOrder : Type 0
OneLevelIsTriedInOrder =
    (root : Route) (children : List Child) (labels : List Label) →
    routes_of (tree_of root children) labels ≡ or_self 0 (matching_from 1 children labels)

-- an option of each route: what it says, or else what the nearest route above it says
abbrev pub nearest : {A : Type 0} → (RouteSpec → Option A) → A → Forest RouteSpec → List A
nearest said above bare = []
nearest said above (grow r below after) =
    let own = unwrap_or (said r) above in
    own ∷ (nearest said own below ++ nearest said above after)

-- law: this option of each route of a tree is the nearest
abbrev pub IsNearest : {A : Type 0} → (Route → A) → (RouteSpec → Option A) → Type 0
IsNearest option said =
    (root : Route) (rules : Forest RouteSpec)
    → map (λ c. option c.route) (children_of (nested_of root rules)) ≡ nearest said (option root) rules

-- law: each option is the nearest
abbrev pub OptionsAreTheNearest : Type 0
OptionsAreTheNearest =
    IsNearest (λ r. r.receiver) (λ r. r.options.receiver)
    × IsNearest (λ r. r.group_by) (λ r. r.options.group_by)
    × IsNearest (λ r. r.group_wait) (λ r. r.options.group_wait)
    × IsNearest (λ r. r.group_interval) (λ r. r.options.group_interval)
    × IsNearest (λ r. r.repeat_interval) (λ r. r.options.repeat_interval)

-- law: names, matchers, `continue` and when a route is muted are its own
abbrev pub TheRestIsItsOwn : Type 0
TheRestIsItsOwn =
    (root : Route) (rules : Forest RouteSpec) →
    (map (λ c. c.route.name) (children_of (nested_of root rules)) ≡ map (λ r. r.name) (listed rules))
    × (map (λ c. c.matchers) (children_of (nested_of root rules)) ≡ map (λ r. r.matchers) (listed rules))
    × (map (λ c. c.continues) (children_of (nested_of root rules)) ≡ map (λ r. r.continues) (listed rules))
    × (map (λ r. r.muted) (listed (nested_of root rules).below) ≡ map (λ r. r.muted) (listed rules))

-- whether one of these routes matches
abbrev pub any_match : Forest TreeRoute → List Label → Bool
any_match bare labels = false
any_match (grow r below after) labels = match_all r.child.matchers labels || any_match after labels

-- whether the route at an index, from 0 on, is reached: it and all above it match, none right below it does, and before each of these
-- none before it does that has no `continue`
abbrev pub reaches : ℕ → Forest TreeRoute → List Label → Bool
reaches k bare labels = false
reaches k (grow r below after) labels =
    let here = match_all r.child.matchers labels in
    if nat_eq k 0 then here && not (any_match below labels)
    else (if nat_le k (count below) then here && reaches (k - 1) below labels
    else not (here && not r.child.continues) && reaches (k - 1 - count below) after labels)

-- whether the route at a position is reached; the root is where no route right below it matches
abbrev pub is_reached : RoutingTree → List Label → ℕ → Bool
is_reached tree labels p = if nat_eq p 0 then not (any_match tree.below labels) else reaches (p - 1) tree.below labels

-- law: the routes of a label set are those that are reached
abbrev pub EachRouteIsReachedOrNot : Type 0
EachRouteIsReachedOrNot =
    (tree : RoutingTree) (labels : List Label) (p : ℕ) → p ≤ last_of tree →
    list_any (λ q. nat_eq q p) (routes_of tree labels) ≡ is_reached tree labels p
