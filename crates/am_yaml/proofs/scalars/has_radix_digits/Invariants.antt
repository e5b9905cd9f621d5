use Rattle.std.proofs.Common.{◌≡◌, ◌&&◌, nat_lt, true, fold, take}
use Rattle.std.specs.Char.{digit_value}
use Rattle.am_yaml.proofs.scalars.has_radix_digits.Given as goal

abbrev pub invariant-loop-byte : goal.invariant-loop-byte
invariant-loop-byte l = l.all ≡ fold (λ all byte. all && nat_lt (digit_value byte) l.radix) true (take l.byte-index l.digits)
