use Rattle.std.proofs.Common.{◌≡◌, true, take}
use Rattle.am_alerts.specs.Spans.{end_in_time}
use Rattle.am_alerts.proofs.spans.end_in_time.Given as goal

abbrev pub invariant-loop-span : goal.invariant-loop-span
invariant-loop-span l = end_in_time (take l.span-index l.spans) ≡ true
