use Rattle.std.proofs.Common.{All, take}
use Rattle.am_pool.specs.Sendings.{IsNotStarved}
use Rattle.am_run.proofs.sending.none_starved.Given as goal

abbrev pub invariant-loop-report : goal.invariant-loop-report
invariant-loop-report l = All IsNotStarved (take l.report-index l.reports)
