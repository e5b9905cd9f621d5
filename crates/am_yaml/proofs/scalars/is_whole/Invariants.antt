use Rattle.std.proofs.Common.{◌≡◌, ◌&&◌, true, fold, take}
use Rattle.std.specs.Char.{is_ascii_digit}
use Rattle.am_yaml.proofs.scalars.is_whole.Given as goal

abbrev pub invariant-loop-byte : goal.invariant-loop-byte
invariant-loop-byte l = l.all ≡ fold (λ all byte. all && is_ascii_digit byte) true (take l.byte-index l.bytes)
