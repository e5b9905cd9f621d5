use Rattle.std.proofs.Common.{◌≡◌, take, filter, map}
use Rattle.am_alerts.specs.AlertData.{is_resolved}
use Rattle.am_board.specs.Beginning.{leaving_member}
use Rattle.am_board.proofs.unmuted.leaving_at.Given as goal

-- those of the members so far that are resolved
abbrev pub invariant-loop-member : goal.invariant-loop-member
invariant-loop-member l = l.leaving.items ≡ map leaving_member (filter (λ m. is_resolved m.alert l.t) (take l.member-index l.members))
