use Rattle.std.proofs.Common.{◌≡◌, ◌≤◌, take}
use Rattle.std.specs.Prelude.{count_by}
use Rattle.am_judge.specs.Edge.{shifts_by}
use Rattle.am_judge.proofs.edge.shifts_in.Given as goal

-- those so far were counted
abbrev pub invariant-loop-event : goal.invariant-loop-event
invariant-loop-event l = record {
  counted : l.count ≡ count_by (shifts_by l.side l.playbacks l.expectation l.playback) (take l.event-index l.events);
  fits : l.count ≤ l.event-index;
}
