use Rattle.std.proofs.Common.{◌≡◌, ◌-◌, [], All, length}
use Rattle.crossbeam_queue.specs.Passes.{view, IsPassOf}
use Rattle.am_pool.specs.declared.limits.TheConstants.{ALL_PARTS}
use Rattle.am_pool.specs.Dealt.{hand}
use Rattle.am_pool.specs.Work.{IsFresh}
use Rattle.am_pool.proofs.pool.staff.Given as goal

abbrev pub invariant-loop : goal.invariant-loop
invariant-loop l =
    IsPassOf l.queue l.whole
    × (view l.whole ≡ hand (ALL_PARTS - l.counter) l.count [])
    × (length l.workers.items ≡ l.counter)
    × All (IsFresh l.queue.table.shared.table_id l.count) l.workers.items
