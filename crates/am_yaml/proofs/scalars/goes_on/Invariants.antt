use Rattle.std.proofs.Common.{◌≡◌, Some, fold, take}
use Rattle.am_yaml.specs.Scalars.{plain_after}
use Rattle.am_yaml.proofs.scalars.goes_on.Given as goal

abbrev pub invariant-loop-byte : goal.invariant-loop-byte
invariant-loop-byte l = l.last ≡ fold (plain_after l.flow) (Some 0) (take l.byte-index l.bytes)
