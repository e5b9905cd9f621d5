use Rattle.std.proofs.Common.{◌≡◌, drop}
use Rattle.std.specs.Float.Parse.{completes_number}
use Rattle.am_yaml.proofs.scalars.is_decimal.Given as goal

abbrev pub invariant-loop-byte : goal.invariant-loop-byte
invariant-loop-byte l = completes_number l.state (drop l.byte-index l.rest) ≡ completes_number 0 l.rest
