use Rattle.std.proofs.Common.{◌≡◌, ◌++◌, string_bytes, take}
use Rattle.std.specs.List.{flat_map}
use Rattle.am_judge.specs.ExpectationReport.{got_by}
use Rattle.am_judge.proofs.expectation_report.came.push_got_in.Given as goal

-- the notices so far were added
abbrev pub invariant-loop-event : goal.invariant-loop-event
invariant-loop-event g l =
    string_bytes l.out
    ≡ string_bytes l.fn.out ++ flat_map (got_by l.some_fit l.playback (g.C.TimeFormat.times l.clock) l.question.expectation.now) (take l.event-index l.events)
