use Rattle.std.proofs.Common.{◌≡◌, ◌+◌, ◌-◌, ◌*◌, ◌≤◌, ◌++◌}
use Rattle.am_alerts.specs.Layout.{planted}
use Rattle.am_alerts.specs.RouteLayouts.{IsPreorder, paired, part}
use Rattle.am_alerts.specs.RoutingTree.{matching}
use Rattle.am_alerts.proofs.routes.+search.Given as goal

abbrev pub decreases-push_matching : goal.decreases-push_matching
decreases-push_matching l = 2 * (l.to - l.from)

abbrev pub decreases-push_reached : goal.decreases-push_reached
decreases-push_reached l = 2 * (l.end - l.at) - 1

-- the positions so far, and those that the routes from here on give
abbrev pub invariant-push_matching-loop-at : goal.invariant-push_matching-loop-at
invariant-push_matching-loop-at l = record {
  begun : l.from ≤ l.at;
  ordered : l.at ≤ l.to;
  preorder : IsPreorder (part l.at l.to (paired l.children l.layouts));
  so_far : l.found.items ++ matching (l.at + 1) (planted (part l.at l.to (paired l.children l.layouts))) l.labels
      ≡ l.initial.found.items ++ matching (l.from + 1) (planted (part l.from l.to (paired l.children l.layouts))) l.labels;
}

abbrev pub decreases-push_matching-loop-at : goal.decreases-push_matching-loop-at
decreases-push_matching-loop-at l = l.to - l.at
