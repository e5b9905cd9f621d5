use Rattle.std.proofs.Common.{◌≡◌, fold, take}
use Rattle.am_yaml.specs.Scalars.{no_words, words_after}
use Rattle.am_yaml.specs.Folding.{words_of}
use Rattle.am_yaml.proofs.scalars.unfold.Given as goal

abbrev pub invariant-loop-byte : goal.invariant-loop-byte
invariant-loop-byte l = words_of l.folding ≡ fold words_after no_words (take l.byte-index l.bytes)
