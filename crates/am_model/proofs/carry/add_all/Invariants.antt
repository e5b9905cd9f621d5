use Rattle.std.proofs.Common.{◌≡◌, fold, take}
use Rattle.am_model.specs.Carry.{with_successors}
use Rattle.am_model.proofs.carry.add_all.Given as goal

-- the routes of the alerts so far were added
abbrev pub invariant-loop-labels : goal.invariant-loop-labels
invariant-loop-labels l = l.routes.items ≡ fold (with_successors l.config l.receiver l.group) l.fn.routes.items (take l.labels-index l.sets)
