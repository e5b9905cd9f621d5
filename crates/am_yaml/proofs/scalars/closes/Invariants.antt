use Rattle.std.proofs.Common.{◌≡◌, fold, take}
use Rattle.am_yaml.specs.Scalars.{double_after}
use Rattle.am_yaml.specs.declared.scalars.Double.TheVariants.{Inside}
use Rattle.am_yaml.proofs.scalars.closes.Given as goal

abbrev pub invariant-loop-byte : goal.invariant-loop-byte
invariant-loop-byte l = l.double ≡ fold double_after Inside (take l.byte-index l.bytes)
