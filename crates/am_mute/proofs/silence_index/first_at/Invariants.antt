use Rattle.std.proofs.Common.{take}
use Rattle.am_mute.specs.SilenceIndex.{IsFirst, IsOneOf}
use Rattle.am_mute.proofs.silence_index.first_at.Given as goal

-- the first of the indexes so far
abbrev pub invariant-loop-index : goal.invariant-loop-index
invariant-loop-index l = IsFirst (IsOneOf (take l.index-index l.indexes)) l.labels l.t l.silences l.bound l.first
