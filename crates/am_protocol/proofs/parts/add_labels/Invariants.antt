use Rattle.std.proofs.Common.{◌≡◌, ◌++◌}
use Rattle.std.specs.List.{flat_map}
use Rattle.am_protocol.specs.Answer.{text_member}
use Rattle.am_protocol.proofs.parts.add_labels.Given as goal

-- what was added and the labels that are left are the label set
abbrev pub invariant-loop-name : goal.invariant-loop-name
invariant-loop-name l =
    l.answer ++ flat_map (λ p. text_member p.name p.value) l.name-iterator
    ≡ l.fn.answer ++ flat_map (λ p. text_member p.name p.value) l.labels
