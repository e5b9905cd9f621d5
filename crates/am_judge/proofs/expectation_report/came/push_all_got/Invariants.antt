use Rattle.std.proofs.Common.{◌≡◌, ◌++◌, string_bytes, take}
use Rattle.std.specs.List.{flat_map}
use Rattle.am_judge.specs.ExpectationReport.{got_in}
use Rattle.am_judge.proofs.expectation_report.came.push_all_got.Given as goal

-- the notices of the playbacks so far were added
abbrev pub invariant-loop-playback : goal.invariant-loop-playback
invariant-loop-playback g l =
    string_bytes l.out
    ≡ string_bytes l.fn.out ++ flat_map (got_in l.some_fit (g.C.TimeFormat.times l.clock) l.question.expectation.now) (take l.playback-index l.question.playbacks.now)
