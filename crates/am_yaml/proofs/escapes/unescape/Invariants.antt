use Rattle.std.proofs.Common.{◌≡◌, take}
use Rattle.am_yaml.specs.Escapes.{unescaped}
use Rattle.am_yaml.specs.EscapedLines.{unescaped_in}
use Rattle.am_yaml.proofs.escapes.unescape.Given as goal

abbrev pub invariant-loop-byte : goal.invariant-loop-byte
invariant-loop-byte l = unescaped_in l.unescaping ≡ unescaped (take l.byte-index l.bytes)
