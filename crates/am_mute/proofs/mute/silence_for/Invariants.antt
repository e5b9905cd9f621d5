use Rattle.std.proofs.Common.{◌≡◌, None, take}
use Rattle.am_mute.specs.Mute.{silence_for}
use Rattle.am_mute.proofs.mute.silence_for.Given as goal

-- no silence so far mutes
abbrev pub invariant-loop-silence : goal.invariant-loop-silence
invariant-loop-silence l = silence_for l.labels l.t (take l.silence-index l.silences) ≡ None
