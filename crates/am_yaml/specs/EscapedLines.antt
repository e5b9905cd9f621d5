-- The text between double quotes, as far as it was read.
use Rattle.am_yaml.specs.Escapes.{Unescaped}
use Rattle.am_yaml.specs.Folding.{words_of}
use Rattle.am_yaml.specs.declared.escapes.Unescaping.{Unescaping}

abbrev pub unescaped_in : Unescaping → Unescaped
unescaped_in unescaping = record { words = words_of unescaping.folding; escape = unescaping.escape }
