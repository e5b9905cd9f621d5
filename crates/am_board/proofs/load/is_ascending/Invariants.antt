use Rattle.std.proofs.Common.{◌≡◌, ◌-◌, drop}
use Rattle.am_alerts.specs.Labels.{label_set_cmp}
use Rattle.am_nflog.specs.Members.{is_ascending}
use Rattle.am_board.proofs.load.is_ascending.Given as goal

-- the list rises, if it does from the last set on that was looked at
abbrev pub invariant-loop-i : goal.invariant-loop-i
invariant-loop-i l = is_ascending label_set_cmp (drop (l.i - 1) l.sets) ≡ is_ascending label_set_cmp l.sets
