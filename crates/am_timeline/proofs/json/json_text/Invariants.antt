use Rattle.std.proofs.Common.{◌≡◌, string_bytes, take}
use Rattle.std.specs.List.{flat_map}
use Rattle.am_timeline.specs.Json.{json_of_event}
use Rattle.am_timeline.proofs.json.json_text.Given as goal

-- the lines so far were added
abbrev pub invariant-loop-event : goal.invariant-loop-event
invariant-loop-event g l =
    string_bytes l.out ≡ flat_map (json_of_event l.playback (g.C.TimeFormat.times l.clock)) (take l.event-index l.playback.events)
