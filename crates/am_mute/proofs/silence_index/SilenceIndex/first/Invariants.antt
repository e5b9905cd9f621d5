use Rattle.std.proofs.Common.{length}
use Rattle.am_mute.specs.SilenceIndex.{IsFirst}
use Rattle.am_mute.proofs.RequiredLabels.{IsUnder}
use Rattle.am_mute.proofs.silence_index.SilenceIndex.first.Given as goal

-- the first of those that are found by one of the labels so far
abbrev pub invariant-loop-i : goal.invariant-loop-i
invariant-loop-i l = IsFirst (IsUnder l.self l.labels l.i) l.labels l.t l.silences (length l.silences) l.first
