use Rattle.std.proofs.Common.{◌≡◌, take}
use Rattle.am_run.specs.Steps.{recorded_all}
use Rattle.am_run.proofs.phase.record_on.Given as goal

abbrev pub invariant-loop-report : goal.invariant-loop-report
invariant-loop-report g l = l.own ≡ recorded_all (take l.report-index l.reports) l.fn.own
