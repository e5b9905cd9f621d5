use Rattle.std.proofs.Common.{◌≡◌, ◌++◌, map}
use Rattle.am_alerts.specs.Forest.{listed}
use Rattle.am_alerts.specs.Layout.{preorder}
use Rattle.am_alerts.specs.Nested.{forest, settled_below}
use Rattle.am_alerts.specs.RouteLayouts.{layout_of}
use Rattle.am_alerts.proofs.route_layout.+push.Given as goal

-- the routes so far are those of the nodes so far
abbrev pub invariant-push_nodes-loop-node : goal.invariant-push_nodes-loop-node
invariant-push_nodes-loop-node l = record {
  children : l.children.items ≡ l.initial.children.items ++ map (λ r. r.child) (listed (settled_below l.above (forest l.yielded)));
  layouts : l.layouts.items ≡ l.initial.layouts.items ++ map layout_of (preorder (settled_below l.above (forest l.yielded)));
}
