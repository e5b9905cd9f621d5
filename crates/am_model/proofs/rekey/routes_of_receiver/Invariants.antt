use Rattle.std.proofs.Common.{◌≡◌, filter, take}
use Rattle.am_model.specs.Rekey.{has_receiver_at}
use Rattle.am_model.proofs.rekey.routes_of_receiver.Given as goal

-- the routes so far
abbrev pub invariant-loop-position : goal.invariant-loop-position
invariant-loop-position l = l.routes.items ≡ filter (has_receiver_at l.config l.receiver) (take l.position-index l.positions)
