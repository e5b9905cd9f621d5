use Rattle.std.proofs.Common.{◌+◌, ◌*◌, ◌≤◌, string_len}
use Rattle.am_patterns.proofs.code.push_all.Given as goal

-- at most four bytes for each character so far
abbrev pub invariant-loop-c : goal.invariant-loop-c
invariant-loop-c l = string_len l.out ≤ string_len l.fn.out + 4 * l.c-index
