use Rattle.std.proofs.Common.{◌≡◌}
use Rattle.am_mute.specs.Sources.{Grows, HasKeysFrom}
use Rattle.am_mute.proofs.sources.Sources.learn_by.Given as goal

-- both sides are the rule's, and the index has kept its keys and has those of the alerts so far
abbrev pub invariant-loop-index : goal.invariant-loop-index
invariant-loop-index l =
    (l.source ≡ l.rule.source)
    × (l.target ≡ l.rule.target)
    × Grows l.initial.self l.self
    × HasKeysFrom l.number l.rule l.known l.initial.self.learnt l.index l.self
