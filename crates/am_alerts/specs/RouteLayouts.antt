-- How a routing tree is kept: its routes below the root in the order of their positions, each with the number of those below it.
use Rattle.std.specs.Prelude.{◌≡◌, ℕ, ◌-◌, List, [], ◌∷◌, None, drop, map, slice_index_or, take}
use Rattle.am_alerts.specs.Forest.{Forest, bare, grow}
use Rattle.am_alerts.specs.Layout.{preorder, planted}
use Rattle.am_alerts.specs.Nested.{settled, settled_below, settled_route}
use Rattle.am_alerts.specs.RoutingTree.{RoutingTree, TreeRoute, plain, tree_fault}
use Rattle.am_alerts.specs.declared.route.Route.{Route}
use Rattle.am_alerts.specs.declared.route.Child.{Child}
use Rattle.am_alerts.specs.declared.route_layout.RouteLayout.{RouteLayout}
use Rattle.am_alerts.specs.declared.spans.Span.{Span}
use Rattle.am_alerts.specs.declared.tree.RouteSpec.{RouteSpec}

-- the layout of a route that lies in a list
abbrev pub layout_of : TreeRoute × ℕ → RouteLayout
layout_of t = record { below = t.1; muted = t.0.muted }

-- how many routes are below one; a route without a layout is a leaf
abbrev pub below_in : List RouteLayout → ℕ → ℕ
below_in layouts at = slice_index_or (map (λ p. p.below) layouts) at 0

-- when a route is muted; one without a layout never is
abbrev pub muted_in : List RouteLayout → ℕ → List Span
muted_in layouts at = slice_index_or (map (λ p. p.muted) layouts) at []

-- a route and those below it, below one that says everything
abbrev pub tree_below : Route → RouteSpec → Forest RouteSpec → Forest TreeRoute
tree_below above r below = grow (settled_route above r) (settled_below (settled above r) below) bare

-- the part of a list from one layout up to another
abbrev pub part : ℕ → ℕ → List (TreeRoute × ℕ) → List (TreeRoute × ℕ)
part from to ts = take (to - from) (drop from ts)

-- routes with the layouts that they have; one without a layout is a leaf that is never muted
abbrev pub paired : List Child → List RouteLayout → List (TreeRoute × ℕ)
paired [] layouts = []
paired (c ∷ cs) [] = (plain c, 0) ∷ paired cs []
paired (c ∷ cs) (p ∷ ps) = (record { child = c; muted = p.muted }, p.below) ∷ paired cs ps

-- the routing tree of a root and the routes that lie in a list
abbrev pub tree_from : Route → List (TreeRoute × ℕ) → RoutingTree
tree_from root routes = record { root = root; below = planted routes }

-- whether the list is one in which a forest lies
abbrev pub IsPreorder : List (TreeRoute × ℕ) → Type 0
IsPreorder routes = preorder (planted routes) ≡ routes

-- whether it is one of a routing tree without a fault
abbrev pub IsPlanted : Route → List (TreeRoute × ℕ) → Type 0
IsPlanted root routes = IsPreorder routes × (tree_fault (tree_from root routes) ≡ None)
