use Rattle.std.proofs.Common.{◌≡◌, map, take}
use Rattle.am_model.specs.Carry.{moved}
use Rattle.am_model.proofs.carry.rows_at.Given as goal

-- the rows so far
abbrev pub invariant-loop-route : goal.invariant-loop-route
invariant-loop-route l = l.rows.items ≡ map (moved l.row l.integration) (take l.route-index l.routes)
