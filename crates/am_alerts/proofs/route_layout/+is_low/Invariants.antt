use Rattle.std.proofs.Common.{◌≡◌, drop, nat_le}
use Rattle.am_alerts.specs.Forest.{height}
use Rattle.am_alerts.specs.Nested.{forest}
use Rattle.am_alerts.proofs.route_layout.+is_low.Given as goal

-- the nodes from here on say whether all are low
abbrev pub invariant-loop-node : goal.invariant-loop-node
invariant-loop-node l =
    nat_le (height (forest (drop l.node-index l.nodes))) l.levels ≡ nat_le (height (forest l.nodes)) l.levels
