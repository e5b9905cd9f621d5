use Rattle.std.proofs.Common.{◌+◌, ◌≤◌, length, vec_len}
use Rattle.am_hours.proofs.Gaps.{IsOutside}
use Rattle.am_hours.proofs.joining.outside.Given as goal

abbrev pub invariant-loop-rest : goal.invariant-loop-rest
invariant-loop-rest l = record {
  outside : IsOutside l.spans l.end l.gaps.items l.at l.rest;
  few : vec_len l.gaps ≤ 8192;
  count : vec_len l.gaps + length l.rest ≤ length l.spans;
}

abbrev pub decreases-loop-rest : goal.decreases-loop-rest
decreases-loop-rest l = length l.rest
