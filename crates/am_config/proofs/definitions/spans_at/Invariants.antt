use Rattle.std.proofs.Common.{◌≡◌, map, take}
use Rattle.am_config.specs.Times.{spans_at}
use Rattle.am_config.proofs.definitions.spans_at.Given as goal

-- the spans so far are those of the indexes so far
abbrev pub invariant-loop-index : goal.invariant-loop-index
invariant-loop-index l = map (λ s. s.now) l.spans.items ≡ spans_at l.named (take l.index-index l.indexes)
