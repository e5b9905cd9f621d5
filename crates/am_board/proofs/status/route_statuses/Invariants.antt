use Rattle.std.proofs.Common.{◌≡◌, map, take}
use Rattle.am_model.specs.Status.{route_status}
use Rattle.am_board.proofs.status.route_statuses.Given as goal

-- the routes so far
abbrev pub invariant-loop-position : goal.invariant-loop-position
invariant-loop-position l = l.routes.items ≡ map (route_status l.config l.t) (take l.position-index l.position-items)
