use Rattle.std.proofs.Common.{◌≡◌, take}
use Rattle.am_yaml.specs.Spelling.{without_returns}
use Rattle.am_yaml.proofs.reader.without_returns.Given as goal

abbrev pub invariant-loop-byte : goal.invariant-loop-byte
invariant-loop-byte l = l.unix.items ≡ without_returns (take l.byte-index l.bytes)
