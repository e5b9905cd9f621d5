-- The tree of routes that was read.
use Rattle.am_alerts.specs.Nested.{forest, nested_of}
use Rattle.am_alerts.specs.RoutingTree.{RoutingTree}
use Rattle.am_config.specs.declared.route.Tree.{Tree}

-- the routing tree of a root and the routes right below it
abbrev pub tree_in : Tree → RoutingTree
tree_in tree = nested_of tree.root (forest tree.routes.items)
