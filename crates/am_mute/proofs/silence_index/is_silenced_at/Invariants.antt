use Rattle.std.proofs.Common.{take}
use Rattle.am_mute.specs.SilenceIndex.{AreUnmuted, IsOneOf}
use Rattle.am_mute.proofs.silence_index.is_silenced_at.Given as goal

-- no silence at one of the indexes so far mutes the label set
abbrev pub invariant-loop-index : goal.invariant-loop-index
invariant-loop-index l = AreUnmuted (IsOneOf (take l.index-index l.indexes)) l.labels l.t l.silences
