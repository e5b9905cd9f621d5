use Rattle.std.proofs.Common.{◌≡◌, take, map}
use Rattle.am_board.specs.Beginning.{notice_of_update}
use Rattle.am_board.proofs.plan.Opening.notices.Given as goal

-- a notice for each integration so far
abbrev pub invariant-loop-update : goal.invariant-loop-update
invariant-loop-update l =
    l.notices.items ≡ map (notice_of_update l.self.board_id l.self.number l.self.deadline l.self.group.now.name l.self.unmuted.now) (take l.update-index l.self.notified.now)
