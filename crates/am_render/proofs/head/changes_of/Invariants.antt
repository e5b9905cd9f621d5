use Rattle.std.proofs.Common.{◌≡◌, map, take}
use Rattle.am_render.specs.Head.{change_of}
use Rattle.am_render.proofs.head.changes_of.Given as goal

-- the changes so far
abbrev pub invariant-loop-dispatcher_change : goal.invariant-loop-dispatcher_change
invariant-loop-dispatcher_change l = l.changes.items ≡ map change_of (take l.dispatcher_change-index l.dispatcher_changes)
