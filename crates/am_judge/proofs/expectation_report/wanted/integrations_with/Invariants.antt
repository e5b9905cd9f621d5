use Rattle.std.proofs.Common.{◌≡◌, drop}
use Rattle.am_judge.specs.ExpectationReport.{integrations_with}
use Rattle.am_judge.proofs.expectation_report.wanted.integrations_with.Given as goal

-- no playback so far has the integration
abbrev pub invariant-loop-playback : goal.invariant-loop-playback
invariant-loop-playback l =
    integrations_with l.playbacks l.name l.kind l.position
    ≡ integrations_with (drop l.playback-index l.playbacks) l.name l.kind l.position
