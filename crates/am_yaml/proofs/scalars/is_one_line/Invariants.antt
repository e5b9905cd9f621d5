use Rattle.std.proofs.Common.{◌≡◌, ◌==◌, ◌&&◌, not, true, fold, take}
use Rattle.am_yaml.proofs.scalars.is_one_line.Given as goal

abbrev pub invariant-loop-byte : goal.invariant-loop-byte
invariant-loop-byte l = l.all ≡ fold (λ all byte. all && not (byte == 10)) true (take l.byte-index l.bytes)
