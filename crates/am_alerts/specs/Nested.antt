-- Routes that say only some of their options, and have the others from the route above them.
use Rattle.std.specs.Prelude.{ℕ, List, [], ◌∷◌, map, unwrap_or}
use Rattle.am_alerts.specs.Forest.{Forest, bare, grow}
use Rattle.am_alerts.specs.RoutingTree.{RoutingTree, TreeRoute}
use Rattle.am_alerts.specs.declared.route.Route.{Route}
use Rattle.am_alerts.specs.declared.tree.Options.{Options}
use Rattle.am_alerts.specs.declared.tree.RouteSpec.{RouteSpec}
use Rattle.am_alerts.specs.declared.tree.Node.{Node}
use Rattle.am_alerts.specs.declared.tree.Node.TheOpen.{Node-F}
use Rattle.am_alerts.specs.declared.tree.Node.TheViews.{out-Node}
use Rattle.am_alerts.specs.declared.tree.Node.TheFolds.{fold-Node}

-- a route and what is below it
pub record Branch : Type 0 where
  pub rule : RouteSpec
  pub below : Forest RouteSpec

-- branches side by side, as a forest
abbrev pub side_by_side : List Branch → Forest RouteSpec
side_by_side [] = bare
side_by_side (b ∷ bs) = grow b.rule b.below (side_by_side bs)

-- one level, with each node below already a branch
abbrev pub branch_step : Node-F Branch → Branch
branch_step n = record { rule = n.rule; below = side_by_side n.routes.items }

abbrev pub branch : Node → Branch
branch = fold-Node Branch branch_step

-- the forest of these nodes
abbrev pub forest : List Node → Forest RouteSpec
forest nodes = side_by_side (map branch nodes)

-- what a node says, and the forest below it
abbrev pub rule_of : Node → RouteSpec
rule_of n = (out-Node n).rule

abbrev pub below_of : Node → Forest RouteSpec
below_of n = forest (out-Node n).routes.items

-- a route of this name below one that says everything: the options that it doesn't say it has from there
abbrev pub settled_options : Route → List ℕ → Options → Route
settled_options above name said = record {
  name = name;
  receiver = unwrap_or said.receiver above.receiver;
  group_by = unwrap_or said.group_by above.group_by;
  group_wait = unwrap_or said.group_wait above.group_wait;
  group_interval = unwrap_or said.group_interval above.group_interval;
  repeat_interval = unwrap_or said.repeat_interval above.repeat_interval;
}

abbrev pub settled : Route → RouteSpec → Route
settled above r = settled_options above r.name r.options

-- the same with its matchers, its `continue` and when it is muted
abbrev pub settled_route : Route → RouteSpec → TreeRoute
settled_route above r =
    record { child = record { route = settled above r; matchers = r.matchers; continues = r.continues }; muted = r.muted }

-- the routes below one that says everything (dispatch.NewRoute)
abbrev pub settled_below : Route → Forest RouteSpec → Forest TreeRoute
settled_below above bare = bare
settled_below above (grow r below after) =
    grow (settled_route above r) (settled_below (settled above r) below) (settled_below above after)

-- the routing tree of a root, which says everything, and the routes below it
abbrev pub nested_of : Route → Forest RouteSpec → RoutingTree
nested_of root rules = record { root = root; below = settled_below root rules }
