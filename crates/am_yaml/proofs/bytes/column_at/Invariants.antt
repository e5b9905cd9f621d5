use Rattle.std.proofs.Common.{◌≡◌, ◌+◌, ◌-◌, ◌≤◌}
use Rattle.am_yaml.specs.Bytes.{column_of}
use Rattle.am_yaml.proofs.bytes.column_at.Given as goal

abbrev pub invariant-loop-start : goal.invariant-loop-start
invariant-loop-start l = (l.start ≤ l.at) × (column_of l.text l.at ≡ (l.at - l.start) + column_of l.text l.start)

abbrev pub decreases-loop-start : goal.decreases-loop-start
decreases-loop-start l = l.start
