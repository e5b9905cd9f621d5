use Rattle.std.proofs.Common.{◌≡◌, length, drop}
use Rattle.am_pool.specs.Gathered.{placed}
use Rattle.am_pool.proofs.pool.put_reports.Given as goal

abbrev pub invariant-loop-number : goal.invariant-loop-number
invariant-loop-number l =
    (length l.reports.items ≡ length l.initial.reports.items)
    × (placed l.reports.items (drop l.number-index l.done) ≡ placed l.initial.reports.items l.done)
