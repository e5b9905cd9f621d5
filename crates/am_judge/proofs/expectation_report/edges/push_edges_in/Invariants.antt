use Rattle.std.proofs.Common.{◌≡◌, ◌++◌, string_bytes, take}
use Rattle.std.specs.List.{flat_map}
use Rattle.am_judge.specs.ExpectationReport.{edges_by}
use Rattle.am_judge.proofs.expectation_report.edges.push_edges_in.Given as goal

-- the repeats so far were added
abbrev pub invariant-loop-event : goal.invariant-loop-event
invariant-loop-event g l =
    string_bytes l.out
    ≡ string_bytes l.fn.out
    ++ flat_map (edges_by l.question.playbacks.now (g.C.TimeFormat.times l.clock) l.question.expectation.now l.playback) (take l.event-index l.events)
