use Rattle.std.proofs.Common.{◌≡◌, None, take}
use Rattle.am_mute.specs.Mute.{inhibition_from}
use Rattle.am_mute.proofs.mute.inhibition.Given as goal

-- no rule so far mutes
abbrev pub invariant-loop-rule : goal.invariant-loop-rule
invariant-loop-rule l = inhibition_from 0 l.labels l.t l.known (take l.rule l.rules) ≡ None
