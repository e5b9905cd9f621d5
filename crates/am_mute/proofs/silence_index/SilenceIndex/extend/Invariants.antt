use Rattle.std.proofs.Common.{◌-◌, length}
use Rattle.am_mute.specs.SilenceIndex.{IsIndexed}
use Rattle.am_mute.proofs.silence_index.SilenceIndex.extend.Given as goal

-- the index holds of the silences
abbrev pub invariant-loop-self : goal.invariant-loop-self
invariant-loop-self l = IsIndexed l.silences l.self

-- the silences that are left
abbrev pub decreases-loop-self : goal.decreases-loop-self
decreases-loop-self l = length l.silences - l.self.indexed
