use Rattle.std.proofs.Common.{◌≡◌, length, take}
use Rattle.std.specs.Prelude.{sum_by}
use Rattle.am_board.proofs.views.count_alerts.Given as goal

-- the alerts of the groups so far
abbrev pub invariant-loop-group : goal.invariant-loop-group
invariant-loop-group l = l.count ≡ sum_by (λ g. length g.members.items) (take l.group-index l.groups)
