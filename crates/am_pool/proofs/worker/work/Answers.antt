use Rattle.std.proofs.Common.{ℕ, List, [], ◌∷◌, ◌++◌, length, length-append, ap, ◌∙◌, arith, append_assoc}
use Rattle.am_pool.specs.declared.queue.Hand.{Hand}
use Rattle.am_pool.specs.Dealt.{hand}
use Rattle.am_pool.specs.Work.{Run}
use Rattle.am_pool.proofs.Working.{RanAll-snoc, numbers-more}
use Rattle.crossbeam_queue.specs.Passes.{view}
use Rattle.am_pool.proofs.worker.work.Goals as goal

pub loop-preserved : goal.loop-preserved
loop-preserved g c =
    let i = c.loop.invariant in
    let old = c.args.worker.now in
    let k = c.in-Some-take.number in
    let some = c.in-Some-take.ensures.some in
    let ran = c.run.ensures.run in
    let run : Run = (k, ran.0) in
    let taken = ap (λ (v : Hand). length v.taken) some.0 in
    let puts = ap (λ (v : Hand). v.put) some.0 in
    let longer = length-append c.loop.worker.done.items (run ∷ []) in
    let more = length-append (view c.loop.worker.pass).taken (k ∷ []) in (
      c.in-Some-take.ensures.pass,
      (
        omega (arith, c.run.new.done.ok.0, c.loop.worker.done.ok.0, ap length ran.1, longer, taken, more, i.1.0),
        omega (arith, puts, i.1.1, c.run.ensures.capacity),
      ),
      (
        i.2.0 ++ run ∷ [],
        ran.1 ∙ ap (λ (l : List Run). l ++ run ∷ []) i.2.1 ∙ append_assoc old.done.items i.2.0 (run ∷ []),
        some.0
            ∙ ap (λ (v : Hand). hand v.parts v.put (v.taken ++ k ∷ [])) i.2.2
            ∙ ap (λ (l : List ℕ). hand (view old.pass).parts (view old.pass).put l) (numbers-more (view old.pass).taken i.2.0 run),
        RanAll-snoc c.args.jobs.now i.2.0 run _ _ _ _ _ _ i.2.3 ran.2,
      ),
    )
