use Rattle.std.proofs.Common.{◌≡◌, map, take}
use Rattle.std.specs.Prelude.{All}
use Rattle.am_board.specs.Inserting.{IsToPut, name_at, stamped_alert}
use Rattle.am_board.proofs.insert.find_routed.Given as goal

-- the placements so far go to the groups of the routes so far
abbrev pub invariant-loop-route : goal.invariant-loop-route
invariant-loop-route l = record {
  names : map (λ p. p.name) l.placements.items ≡ map (name_at l.routes l.labels) (take l.route-index l.route-items);
  found : All (IsToPut l.routes l.groups.items (stamped_alert l.alert l.stamp)) l.placements.items;
}
