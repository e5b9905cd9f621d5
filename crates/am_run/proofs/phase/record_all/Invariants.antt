use Rattle.std.proofs.Common.{◌≡◌, length}
use Rattle.am_run.specs.Steps.{recorded_all}
use Rattle.am_run.proofs.Written.{written_to}
use Rattle.am_run.proofs.phase.record_all.Given as goal

-- the tickets so far have their reports, and the others are as they were
abbrev pub invariant-loop-own : goal.invariant-loop-own
invariant-loop-own g l = record {
  count : length l.own-items ≡ length l.initial.own-items;
  recorded : l.own-items ≡ written_to (recorded_all l.reports) l.own-index l.initial.own-items;
}
