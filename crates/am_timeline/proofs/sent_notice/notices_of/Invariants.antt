use Rattle.std.proofs.Common.{◌≡◌, map, take}
use Rattle.std.specs.List.{flat_map}
use Rattle.am_timeline.specs.Comparison.{delivered_by, notice_of}
use Rattle.am_timeline.proofs.sent_notice.notices_of.Given as goal

-- those of the events so far were added
abbrev pub invariant-loop-event : goal.invariant-loop-event
invariant-loop-event g l = map notice_of l.notices.items ≡ flat_map (delivered_by l.playback) (take l.event-index l.playback.events)
