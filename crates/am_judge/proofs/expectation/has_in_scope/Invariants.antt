use Rattle.std.proofs.Common.{◌≡◌, drop}
use Rattle.std.specs.List.{list_any}
use Rattle.am_judge.specs.Expectation.{ends_in_scope}
use Rattle.am_judge.proofs.expectation.has_in_scope.Given as goal

-- none so far is meant
abbrev pub invariant-loop-event : goal.invariant-loop-event
invariant-loop-event l =
    list_any (ends_in_scope l.playback l.expectation) l.events ≡ list_any (ends_in_scope l.playback l.expectation) (drop l.event-index l.events)
