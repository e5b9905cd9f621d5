use Rattle.std.proofs.Common.{◌≡◌, take, map}
use Rattle.am_board.specs.Beginning.{notified_for_update}
use Rattle.am_board.proofs.plan.Opening.notified_with.Given as goal

-- each integration so far
abbrev pub invariant-loop-update : goal.invariant-loop-update
invariant-loop-update l = l.all.items ≡ map (notified_for_update l.self.group.now.name l.self.unmuted.now) (take l.update-index l.self.notified.now)
