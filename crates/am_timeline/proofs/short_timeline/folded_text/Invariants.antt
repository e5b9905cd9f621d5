use Rattle.std.proofs.Common.{◌≡◌, string_bytes, take}
use Rattle.std.specs.List.{flat_map}
use Rattle.am_timeline.specs.Runs.{event_lines_by_runs}
use Rattle.am_timeline.proofs.short_timeline.folded_text.Given as goal

-- the lines so far were added
abbrev pub invariant-loop-event : goal.invariant-loop-event
invariant-loop-event g l =
    string_bytes l.out
    ≡ flat_map (event_lines_by_runs l.print.playback.now (g.C.TimeFormat.times l.print.clock.now) l.folds) (take l.event-index l.print.playback.now.events)
