use Rattle.std.proofs.Common.{◌≡◌, false, take}
use Rattle.am_mute.specs.Silence.{is_silenced}
use Rattle.am_mute.proofs.silence_index.is_silenced.Given as goal

-- no silence so far mutes the label set
abbrev pub invariant-loop-silence : goal.invariant-loop-silence
invariant-loop-silence l = is_silenced l.labels l.t (take l.silence-index l.silences) ≡ false
