use Rattle.std.proofs.Common.{◌≡◌, drop}
use Rattle.am_judge.specs.ExpectationReport.{nearest_with}
use Rattle.am_judge.proofs.expectation_report.nearest.nearest_with.Given as goal

-- the nearest so far, with the other notices, gives the nearest of all
abbrev pub invariant-loop-event : goal.invariant-loop-event
invariant-loop-event l =
    nearest_with l.alike l.playback l.expectation l.best (drop l.event-index l.events)
    ≡ nearest_with l.alike l.playback l.expectation l.fn.nearest l.events
