use Rattle.std.proofs.Common.{◌≡◌, filter, take}
use Rattle.am_timeline.specs.Filtered.{concerns}
use Rattle.am_timeline.proofs.filtered.wanted_events.Given as goal

-- of the events so far those of groups that are wanted were kept
abbrev pub invariant-loop-event : goal.invariant-loop-event
invariant-loop-event l = l.kept.items ≡ filter (concerns l.playback l.wanted) (take l.event-index l.events)
