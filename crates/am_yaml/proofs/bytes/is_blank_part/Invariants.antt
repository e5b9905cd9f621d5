use Rattle.std.proofs.Common.{◌≡◌, ◌&&◌, true, fold, take}
use Rattle.am_yaml.specs.Bytes.{is_blank}
use Rattle.am_yaml.proofs.bytes.is_blank_part.Given as goal

abbrev pub invariant-loop-byte : goal.invariant-loop-byte
invariant-loop-byte l = l.all ≡ fold (λ all byte. all && is_blank byte) true (take l.byte-index l.bytes)
