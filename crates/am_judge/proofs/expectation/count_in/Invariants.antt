use Rattle.std.proofs.Common.{◌≡◌, ◌≤◌, take}
use Rattle.std.specs.Prelude.{count_by}
use Rattle.am_judge.specs.Expectation.{ends_fitting}
use Rattle.am_judge.proofs.expectation.count_in.Given as goal

-- those so far were counted
abbrev pub invariant-loop-event : goal.invariant-loop-event
invariant-loop-event l = record {
  counted : l.count ≡ count_by (ends_fitting l.playback l.expectation) (take l.event-index l.events);
  fits : l.count ≤ l.event-index;
}
