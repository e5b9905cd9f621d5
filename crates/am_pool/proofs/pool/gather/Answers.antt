use Rattle.std.proofs.Common.{◌≡◌, ◌<◌, Some, List, [], ◌∷◌, ◌++◌, length, sym, ap, ◌∙◌, arith}
use Rattle.std.proofs.lemmas.List.Elements.{All-pop}
use Rattle.crossbeam_queue.specs.Passes.{view, IsPassOf}
use Rattle.am_model.specs.declared.notice.Report.{Report}
use Rattle.am_pool.specs.Dealt.{weigh}
use Rattle.am_pool.specs.Gathered.{AreBelow, placed, runs_back, parts_of, weigh_taken}
use Rattle.am_pool.specs.declared.queue.Hand.{Hand}
use Rattle.am_pool.specs.declared.worker.Worker.{Worker}
use Rattle.am_pool.proofs.Weights.{weigh-append}
use Rattle.am_pool.proofs.Gatherings.{parts-snoc, taken-snoc, back-snoc, placed-append}
use Rattle.am_pool.proofs.pool.gather.Goals as goal

pub loop-worker-preserved : goal.loop-worker-preserved
loop-worker-preserved c =
    let i = c.loop-worker.invariant in
    let rest = c.pop.new.self.items in
    let s = c.in-Some.worker in
    let was = c.loop-worker.reports.items in
    let e : c.loop-worker.workers.items ≡ rest ++ s ∷ [] = c.in-Some.ensures.items in
    let both = c.absorb.ensures.both in
    let parts = ap (λ (v : Hand). v.parts) both in
    let put : c.put_reports.new.reports.items ≡ placed was s.done.items = c.put_reports.ensures.placed ∙ ap (placed was) c.as_slice.ensures.value in (
      (c.absorb.ensures.pass, omega (arith, parts, i.0.1)),
      (All-pop (λ (s : Worker). IsPassOf c.args.queue.now s.pass × (0 < (view s.pass).parts)) _ _ (Some s) e i.1).0,
      (All-pop (λ (s : Worker). AreBelow (length c.args.reports.now.items) s.done.items) _ _ (Some s) e i.2).0,
      omega (arith, parts, i.3, ap parts_of e, parts-snoc rest s),
      ap (λ (v : Hand). v.put) both ∙ i.4,
      λ h.
          let taken = ap (λ (v : Hand). weigh h v.taken) both in
          let longer = weigh-append h (view c.loop-worker.whole).taken (view s.pass).taken in
          omega (arith, taken, longer, i.5 h, ap (weigh_taken h) e, taken-snoc h rest s),
      c.put_reports.ensures.count ∙ i.6,
      ap (λ (l : List Report). placed l (runs_back rest)) put
          ∙ sym (placed-append was s.done.items (runs_back rest))
          ∙ ap (placed was) (sym (back-snoc rest s) ∙ sym (ap runs_back e))
          ∙ i.7,
    )
