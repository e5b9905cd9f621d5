use Rattle.std.proofs.Common.{◌<◌, ℕ, length}
use Rattle.am_mute.specs.Inhibit.{RuleData}
use Rattle.am_mute.specs.Sources.{Grows, HasKeysFrom, IsAt}
use Rattle.am_mute.proofs.sources.Sources.learn.Given as goal

-- the index has kept its keys, and has those of the alerts that are new to it by each rule so far
abbrev pub invariant-loop-number : goal.invariant-loop-number
invariant-loop-number l =
    Grows l.initial.self l.self
    × ((number : ℕ) (rule : RuleData) → IsAt l.rules number rule → number < l.number
    → HasKeysFrom number rule l.known l.initial.self.learnt (length l.known) l.self)
