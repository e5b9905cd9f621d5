use Rattle.std.proofs.Common.{◌≡◌, take}
use Rattle.am_mute.specs.Causes.{silence_causes}
use Rattle.am_mute.proofs.causes.silence_causes.Given as goal

-- the silences so far that mute
abbrev pub invariant-loop-silence : goal.invariant-loop-silence
invariant-loop-silence l = l.causes.items ≡ silence_causes l.labels l.t (take l.silence-index l.silences)
