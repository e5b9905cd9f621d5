use Rattle.std.proofs.Common.{◌≡◌, drop}
use Rattle.std.specs.List.{list_any}
use Rattle.am_judge.specs.Edge.{ends_repeat_at}
use Rattle.am_judge.proofs.edge.has_repeat_at.Given as goal

-- none so far is one
abbrev pub invariant-loop-event : goal.invariant-loop-event
invariant-loop-event l =
    list_any (ends_repeat_at l.expectation l.notice l.at l.playback) l.events
    ≡ list_any (ends_repeat_at l.expectation l.notice l.at l.playback) (drop l.event-index l.events)
