use Rattle.std.proofs.Common.{◌≡◌, ◌++◌, string_bytes, take}
use Rattle.std.specs.List.{flat_map}
use Rattle.am_judge.specs.ExpectationReport.{edges_in}
use Rattle.am_judge.proofs.expectation_report.edges.push_all_edges.Given as goal

-- the repeats of the playbacks so far were added
abbrev pub invariant-loop-playback : goal.invariant-loop-playback
invariant-loop-playback g l =
    string_bytes l.out
    ≡ string_bytes l.fn.out ++ flat_map (edges_in l.question.playbacks.now (g.C.TimeFormat.times l.clock) l.question.expectation.now) (take l.playback-index l.question.playbacks.now)
