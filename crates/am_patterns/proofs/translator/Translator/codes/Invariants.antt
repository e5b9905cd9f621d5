use Rattle.std.proofs.Common.{◌+◌, ◌*◌, ◌≤◌, string_len}
use Rattle.am_patterns.proofs.translator.Translator.codes.Given as goal

-- at most 30 bytes for each character so far
abbrev pub invariant-loop-c : goal.invariant-loop-c
invariant-loop-c l = string_len l.self.out ≤ string_len l.fn.self.out + 30 * l.c-index
