use Rattle.std.proofs.Common.{◌≡◌, take}
use Rattle.am_mute.specs.Causes.{mute_causes_of}
use Rattle.am_mute.proofs.causes.mute_causes.Given as goal

-- the silences that mute, and the rules so far that do
abbrev pub invariant-loop-rule : goal.invariant-loop-rule
invariant-loop-rule l = l.causes.items ≡ mute_causes_of l.labels l.t l.silences (take l.rule l.rules) l.known
