use Rattle.std.proofs.Common.{map, take}
use Rattle.am_commands.specs.LabelWords.{WriteLabels}
use Rattle.am_commands.proofs.label_words.parts_of.Given as goal

-- the words so far write the labels so far
abbrev pub invariant-loop-word : goal.invariant-loop-word
invariant-loop-word g l = WriteLabels (map (λ word. word.now) (take l.word-index l.words)) l.parts.items
