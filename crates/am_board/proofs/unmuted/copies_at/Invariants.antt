use Rattle.std.proofs.Common.{◌≡◌, take}
use Rattle.am_board.specs.Beginning.{copies_at}
use Rattle.am_board.proofs.unmuted.copies_at.Given as goal

-- the copies of the members so far
abbrev pub invariant-loop-member : goal.invariant-loop-member
invariant-loop-member l = l.copies.items ≡ copies_at l.t (take l.member-index l.members)
