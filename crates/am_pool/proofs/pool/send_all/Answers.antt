use Rattle.std.proofs.Common.{◌<◌, ℕ, List, length, All, sym, ap, ◌∙◌, subst, arith}
use Rattle.std.proofs.lemmas.List.Elements.{All-from_recursion, All-same, recursion_from_All}
use Rattle.crossbeam_queue.specs.Passes.{view}
use Rattle.am_model.specs.declared.notice.Report.{Report}
use Rattle.am_pool.specs.Dealt.{weigh}
use Rattle.am_pool.specs.Work.{Run}
use Rattle.am_pool.specs.Gathered.{AreBelow, placed}
use Rattle.am_pool.specs.declared.queue.Hand.{Hand}
use Rattle.am_pool.specs.declared.worker.Worker.{Worker}
use Rattle.am_pool.proofs.Sending.{together, all_shared, first_below}
use Rattle.am_pool.proofs.pool.send_all.Goals as goal

pub gather-requires-clause-passes : goal.gather-requires-clause-passes
gather-requires-clause-passes g c =
    let news = c.work_staff.new.workers.items in
    let fresh = recursion_from_All _ _ c.in_ok-workers.ensures.fresh in
    let all = together c.args.jobs.now g.C.Courier.tries g.C.Courier.refusals _ _ _ news _ _ c.work_staff.ensures.work fresh in
    λ k d in'. (c.work_staff.ensures.passes k d in', All-from_recursion (λ (s : Worker). 0 < (view s.pass).parts) news all.each k d in')

pub gather-requires-clause-numbers : goal.gather-requires-clause-numbers
gather-requires-clause-numbers g c =
    let news = c.work_staff.new.workers.items in
    let fresh = recursion_from_All _ _ c.in_ok-workers.ensures.fresh in
    let all = together c.args.jobs.now g.C.Courier.tries g.C.Courier.refusals _ _ _ news _ _ c.work_staff.ensures.work fresh in
    subst (λ (n : ℕ). All (λ (s : Worker). AreBelow n s.done.items) news)
    (sym c.in_ok-reports.ensures)
    (All-from_recursion (λ (s : Worker). AreBelow (length c.args.jobs.now) s.done.items) news all.below)

pub put_reports-requires : goal.put_reports-requires
put_reports-requires g c =
    let empty = c.in_ok-done.ensures.empty in
    let below = first_below c.args.jobs.now g.C.Courier.tries g.C.Courier.refusals _ _ _ _ empty c.work_first.ensures.work in
    record {
      numbers =
          subst (λ (n : ℕ). AreBelow n c.as_slice.result.now)
          (sym (c.gather.ensures.count ∙ c.in_ok-reports.ensures))
          (All-same (λ (run : Run). run.0 < length c.args.jobs.now) _ _ c.as_slice.ensures.value below);
    }

pub returns-clause-shared : goal.returns-clause-shared
returns-clause-shared g c =
    let news = c.work_staff.new.workers.items in
    let fresh = recursion_from_All _ _ c.in_ok-workers.ensures.fresh in
    let all = together c.args.jobs.now g.C.Courier.tries g.C.Courier.refusals _ _ _ news _ _ c.work_staff.ensures.work fresh in
    let left = c.in_ok-workers.ensures.pass.1 in
    let last : Worker = record { pass = c.gather.new.whole; done = c.in_ok-done.done } in
    let blanks = c.in_ok-reports.reports.items in
    all_shared c.args.jobs.now g.C.Courier.tries g.C.Courier.refusals news blanks c.put_reports.new.reports.items _ _ _ last _
    record {
      all = all;
      done = c.in_ok-done.ensures.empty;
      parts =
          let one = ap (λ (v : Hand). v.parts) left in
          let lengths = c.work_staff.ensures.lengths.0 in
          omega (arith, c.gather.ensures.parts, all.parts, lengths, c.in_ok-workers.ensures.size, one, c.requires.workers.1);
      put = c.gather.ensures.put ∙ ap (λ (v : Hand). v.put) left;
      taken = λ h. omega (arith, c.gather.ensures.taken h, ap (λ (v : Hand). weigh h v.taken) left);
      blank = c.in_ok-reports.ensures;
      placed_are =
          c.put_reports.ensures.placed
          ∙ ap (placed c.gather.new.reports.items) c.as_slice.ensures.value
          ∙ ap (λ (l : List Report). placed l c.work_first.new.worker.done.items) c.gather.ensures.placed;
    }
    c.work_first.ensures.work
