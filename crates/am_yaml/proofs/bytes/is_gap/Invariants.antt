use Rattle.std.proofs.Common.{◌≡◌, fold, take}
use Rattle.am_yaml.specs.Bytes.{gap_after}
use Rattle.am_yaml.proofs.bytes.is_gap.Given as goal

abbrev pub invariant-loop-byte : goal.invariant-loop-byte
invariant-loop-byte l = l.gap ≡ fold gap_after l.initial.gap (take l.byte-index l.bytes)
