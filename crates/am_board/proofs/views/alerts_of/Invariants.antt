use Rattle.std.proofs.Common.{◌≡◌, map, take}
use Rattle.am_board.proofs.views.alerts_of.Given as goal

-- the alerts of the members so far
abbrev pub invariant-loop-member : goal.invariant-loop-member
invariant-loop-member l = l.alerts.items ≡ map (λ m. m.alert) (take l.member-index l.members)
