use Rattle.std.proofs.Common.{◌≡◌, false, take}
use Rattle.std.specs.List.{list_any}
use Rattle.am_hours.specs.Intervals.{is_between}
use Rattle.am_hours.proofs.interval.is_between_one.Given as goal

abbrev pub invariant-loop-range : goal.invariant-loop-range
invariant-loop-range l = list_any (is_between l.number) (take l.range-index l.ranges) ≡ false
