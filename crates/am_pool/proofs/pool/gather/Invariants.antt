use Rattle.std.proofs.Common.{◌≡◌, ◌<◌, ◌+◌, ℕ, All, length}
use Rattle.crossbeam_queue.specs.Passes.{view, IsPassOf}
use Rattle.am_pool.specs.Dealt.{weigh}
use Rattle.am_pool.specs.Gathered.{AreBelow, placed, runs_back, parts_of, weigh_taken}
use Rattle.am_pool.specs.declared.worker.Worker.{Worker}
use Rattle.am_pool.proofs.pool.gather.Given as goal

abbrev pub invariant-loop-worker : goal.invariant-loop-worker
invariant-loop-worker l =
    let i = l.initial in
    (IsPassOf l.queue l.whole × (0 < (view l.whole).parts))
    × All (λ (s : Worker). IsPassOf l.queue s.pass × (0 < (view s.pass).parts)) l.workers.items
    × All (λ (s : Worker). AreBelow (length i.reports.items) s.done.items) l.workers.items
    × ((view l.whole).parts + parts_of l.workers.items ≡ (view i.whole).parts + parts_of i.workers.items)
    × ((view l.whole).put ≡ (view i.whole).put)
    × ((h : ℕ → ℕ)
    → weigh h (view l.whole).taken + weigh_taken h l.workers.items ≡ weigh h (view i.whole).taken + weigh_taken h i.workers.items)
    × (length l.reports.items ≡ length i.reports.items)
    × (placed l.reports.items (runs_back l.workers.items) ≡ placed i.reports.items (runs_back i.workers.items))

abbrev pub decreases-loop-worker : goal.decreases-loop-worker
decreases-loop-worker l = length l.workers.items
