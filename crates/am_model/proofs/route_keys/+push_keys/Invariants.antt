use Rattle.std.proofs.Common.{◌≡◌, ◌-◌, ◌≤◌, ◌++◌}
use Rattle.am_alerts.specs.Layout.{preorder, planted}
use Rattle.am_alerts.specs.RouteLayouts.{IsPreorder, part}
use Rattle.am_alerts.specs.RoutingTree.{last_of}
use Rattle.am_model.specs.RouteKeys.{keys_below}
use Rattle.am_model.proofs.route_keys.+push_keys.Given as goal

abbrev pub decreases-push_keys : goal.decreases-push_keys
decreases-push_keys l = l.to - l.from

-- the keys so far, and those of the routes from here on
abbrev pub invariant-loop-at : goal.invariant-loop-at
invariant-loop-at l = record {
  begun : l.from ≤ l.at;
  ordered : l.at ≤ l.to;
  within : l.to ≤ last_of l.routes;
  is_preorder : IsPreorder (part l.at l.to (preorder l.routes.below));
  so_far : l.keys.items ++ keys_below l.above (planted (part l.at l.to (preorder l.routes.below)))
      ≡ l.initial.keys.items ++ keys_below l.above (planted (part l.from l.to (preorder l.routes.below)));
}

abbrev pub decreases-loop-at : goal.decreases-loop-at
decreases-loop-at l = l.to - l.at
