use Rattle.std.proofs.Common.{◌≡◌, ◌++◌, take}
use Rattle.std.specs.List.{flat_map}
use Rattle.am_protocol.proofs.answer.Answer.add_all.Given as goal

-- the values so far were added
abbrev pub invariant-loop-value : goal.invariant-loop-value
invariant-loop-value g l = l.self ≡ l.fn.self ++ flat_map (g.T.ToJson.tokens l.config) (take l.value-index l.values)
