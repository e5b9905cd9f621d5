use Rattle.std.proofs.Common.{◌≡◌, None, drop}
use Rattle.am_judge.specs.ExpectationReport.{nearest_in}
use Rattle.am_judge.proofs.expectation_report.nearest.nearest.Given as goal

-- the nearest so far, with the notices of the other playbacks, gives the nearest of all
abbrev pub invariant-loop-playback : goal.invariant-loop-playback
invariant-loop-playback l =
    nearest_in l.alike l.expectation l.best (drop l.playback-index l.playbacks) ≡ nearest_in l.alike l.expectation None l.playbacks
