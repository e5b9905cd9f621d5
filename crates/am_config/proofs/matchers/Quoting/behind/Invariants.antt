use Rattle.std.proofs.Common.{◌≡◌, take}
use Rattle.am_config.specs.Matchers.{quoting_after}
use Rattle.am_config.proofs.matchers.Quoting.behind.Given as goal

-- the quotes behind the bytes so far
abbrev pub invariant-loop-byte : goal.invariant-loop-byte
invariant-loop-byte l = l.quoting ≡ quoting_after l.fn.self (take l.byte-index l.bytes)
