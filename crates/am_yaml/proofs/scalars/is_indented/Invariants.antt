use Rattle.std.proofs.Common.{◌≡◌, fold, take}
use Rattle.am_yaml.specs.Scalars.{line_after}
use Rattle.am_yaml.specs.declared.scalars.Line.TheVariants.{Within}
use Rattle.am_yaml.proofs.scalars.is_indented.Given as goal

abbrev pub invariant-loop-byte : goal.invariant-loop-byte
invariant-loop-byte l = l.line ≡ fold (line_after l.least) Within (take l.byte-index l.bytes)
