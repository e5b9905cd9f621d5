use Rattle.std.proofs.Common.{◌≡◌, fold, take}
use Rattle.am_model.specs.Carry.{with_successor}
use Rattle.am_model.proofs.carry.add_successors.Given as goal

-- the routes so far were added, if they inherit
abbrev pub invariant-loop-i : goal.invariant-loop-i
invariant-loop-i l = l.routes.items ≡ fold (with_successor l.config l.receiver l.group l.labels) l.fn.routes.items (take l.i l.found.items)
