use Rattle.std.proofs.Common.{◌≡◌, map, take}
use Rattle.std.specs.Prelude.{All}
use Rattle.am_board.specs.Inserting.{IsToPut, stamped_alert}
use Rattle.am_board.proofs.insert.find_named.Given as goal

-- the placements so far go to the groups of the names so far
abbrev pub invariant-loop-destination : goal.invariant-loop-destination
invariant-loop-destination l = record {
  names : map (λ p. p.name) l.placements.items ≡ take l.destination-index l.names;
  found : All (IsToPut l.routes l.groups.items (stamped_alert l.alert l.stamp)) l.placements.items;
}
