use Rattle.std.proofs.Common.{◌≡◌, take}
use Rattle.am_alerts.proofs.sequence.copy_all.Given as goal

-- the copies so far are the values so far
abbrev pub invariant-loop-value : goal.invariant-loop-value
invariant-loop-value g l = l.copies.items ≡ take l.value-index l.values
