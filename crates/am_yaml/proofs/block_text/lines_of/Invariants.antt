use Rattle.std.proofs.Common.{◌≡◌, take}
use Rattle.am_yaml.specs.Blocks.{lines_of}
use Rattle.am_yaml.specs.BlockLines.{lines_in}
use Rattle.am_yaml.proofs.block_text.lines_of.Given as goal

abbrev pub invariant-loop-byte : goal.invariant-loop-byte
invariant-loop-byte l = lines_in l.block ≡ lines_of l.is_folded l.indent (take l.byte-index l.bytes)
