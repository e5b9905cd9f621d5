use Rattle.std.proofs.Common.{◌≡◌, ◌+◌, ◌*◌, take}
use Rattle.serde_json.specs.View.{items_view}
use Rattle.am_alerts.specs.Nested.{forest}
use Rattle.am_config.specs.Collects.{Collects}
use Rattle.am_config.specs.Routes.{AreRoutes}
use Rattle.am_config.proofs.route.+routes.Given as goal

-- the routes so far are those of the items so far, by the same definitions
abbrev pub invariant-read_routes-loop-index : goal.invariant-read_routes-loop-index
invariant-read_routes-loop-index l = record {
  times : l.routing.times ≡ l.fn.routing.times;
  are : Collects l.fn.faults l.faults (AreRoutes l.fn.routing.times (items_view (take l.index l.items)) (forest l.routes.items));
}

abbrev pub decreases-read_node : goal.decreases-read_node
decreases-read_node l = l.levels * 3 + 3

abbrev pub decreases-read_routes : goal.decreases-read_routes
decreases-read_routes l = l.levels * 3 + 2

abbrev pub decreases-read_item : goal.decreases-read_item
decreases-read_item l = l.levels * 3 + 1
