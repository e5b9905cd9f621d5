use Rattle.std.proofs.Common.{◌+◌, ◌*◌, ◌≤◌, length, string_len}
use Rattle.am_patterns.proofs.translator.Translator.class.Given as goal

-- at most 25 bytes for each character that is read
abbrev pub invariant-loop-rest : goal.invariant-loop-rest
invariant-loop-rest l = string_len l.self.out + 25 * length l.rest ≤ string_len l.fn.self.out + 14 + 25 * length l.text

abbrev pub decreases-loop-rest : goal.decreases-loop-rest
decreases-loop-rest l = length l.rest
