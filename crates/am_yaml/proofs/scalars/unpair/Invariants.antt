use Rattle.std.proofs.Common.{◌≡◌, fold, take}
use Rattle.am_yaml.specs.Scalars.{no_pairs, pairs_after}
use Rattle.am_yaml.proofs.scalars.unpair.Given as goal

abbrev pub invariant-loop-byte : goal.invariant-loop-byte
invariant-loop-byte l = fold pairs_after no_pairs (take l.byte-index l.bytes) ≡ record { found = l.found.items; quote = l.quote }
