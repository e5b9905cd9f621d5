use Rattle.std.proofs.Common.{◌≡◌, filter, take}
use Rattle.am_timeline.specs.Changed.{is_new}
use Rattle.am_timeline.proofs.changed.new_events.Given as goal

-- of the events so far those that say something new were kept
abbrev pub invariant-loop-event : goal.invariant-loop-event
invariant-loop-event l = l.kept.items ≡ filter (is_new l.count l.folds) (take l.event-index l.events)
