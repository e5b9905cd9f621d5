-- The words of a text of folded lines, as far as it was read.
use Rattle.am_yaml.specs.Scalars.{Words}
use Rattle.am_yaml.specs.declared.scalars.Folding.{Folding}

abbrev pub words_of : Folding → Words
words_of folding = record { text = folding.text.items; pending = folding.pending.items; ends = folding.ends }
