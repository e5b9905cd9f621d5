use Rattle.std.proofs.Common.{◌+◌, ◌≤◌, length, vec_len}
use Rattle.am_hours.proofs.Merges.{IsMerged}
use Rattle.am_hours.proofs.joining.union.Given as goal

abbrev pub invariant-loop-next : goal.invariant-loop-next
invariant-loop-next l = record {
  merged : IsMerged l.first l.second l.joined.items l.one l.other;
  few : vec_len l.joined ≤ 8192;
  count : vec_len l.joined + (length l.one + length l.other) ≤ length l.first + length l.second;
}

abbrev pub decreases-loop-next : goal.decreases-loop-next
decreases-loop-next l = length l.one + length l.other
