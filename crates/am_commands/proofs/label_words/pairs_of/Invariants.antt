use Rattle.std.proofs.Common.{◌≡◌, map, take}
use Rattle.am_alerts.specs.Labels.{labels_in}
use Rattle.am_commands.specs.LabelWords.{label_of}
use Rattle.am_commands.proofs.label_words.pairs_of.Given as goal

-- the pairs so far
abbrev pub invariant-loop-label : goal.invariant-loop-label
invariant-loop-label l = labels_in l.pairs.items ≡ map label_of (take l.label-index l.parts)
