use Rattle.std.proofs.Common.{◌≡◌, false, take}
use Rattle.std.specs.List.{list_any}
use Rattle.am_hours.specs.Intervals.{is_during}
use Rattle.am_hours.proofs.interval.is_during_one.Given as goal

abbrev pub invariant-loop-time : goal.invariant-loop-time
invariant-loop-time l = list_any (is_during l.minute) (take l.time-index l.times) ≡ false
