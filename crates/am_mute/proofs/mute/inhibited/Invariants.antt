use Rattle.std.proofs.Common.{◌≡◌, false, take}
use Rattle.am_mute.specs.Inhibit.{is_inhibited}
use Rattle.am_mute.proofs.mute.inhibited.Given as goal

-- no rule so far mutes
abbrev pub invariant-loop-rule : goal.invariant-loop-rule
invariant-loop-rule l = is_inhibited l.labels l.t (take l.rule l.rules) l.known ≡ false
