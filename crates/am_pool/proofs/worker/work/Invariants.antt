use Rattle.std.proofs.Common.{◌≡◌, ◌++◌, List}
use Rattle.crossbeam_queue.specs.Passes.{view, IsPassOf}
use Rattle.am_pool.specs.Dealt.{hand}
use Rattle.am_pool.specs.Work.{Run, RanAll, HasSpace, numbers_of}
use Rattle.am_pool.proofs.worker.work.Given as goal

abbrev pub invariant-loop : goal.invariant-loop
invariant-loop g l =
    let old = l.initial.worker in
    let tries = g.C.Courier.tries in
    let refusals = g.C.Courier.refusals in
    IsPassOf l.queue l.worker.pass × HasSpace l.worker
    × ((runs : List Run) × (l.worker.done.items ≡ old.done.items ++ runs)
    × (view l.worker.pass ≡ hand (view old.pass).parts (view old.pass).put ((view old.pass).taken ++ numbers_of runs))
    × RanAll l.jobs runs (tries l.initial.courier) (refusals l.initial.courier) (tries l.courier) (refusals l.courier))
