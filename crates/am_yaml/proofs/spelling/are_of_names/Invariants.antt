use Rattle.std.proofs.Common.{◌≡◌, ◌&&◌, true, fold, take}
use Rattle.am_yaml.specs.Scalars.{is_of_names}
use Rattle.am_yaml.proofs.spelling.are_of_names.Given as goal

abbrev pub invariant-loop-byte : goal.invariant-loop-byte
invariant-loop-byte l = l.all ≡ fold (λ all byte. all && is_of_names byte) true (take l.byte-index l.bytes)
