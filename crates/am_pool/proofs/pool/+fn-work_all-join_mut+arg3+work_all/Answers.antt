use Rattle.std.proofs.Common.{rules, arith, length}
use Rattle.std.proofs.lemmas.List.Elements.{All-head, All-rest, All-same}
use Rattle.std.proofs.Common.{sym}
use Rattle.am_pool.specs.Work.{MayWork}
use Rattle.am_pool.proofs.pool.+fn-work_all-join_mut+arg3+work_all.Goals as goal

pub join_mut-requires-after_bounds : goal.join_mut-requires-after_bounds
join_mut-requires-after_bounds g t c κs within =
    let split = c.in-Some.ensures.cases in
    let reported_at = c.in-Some-split_first_mut.ensures.cases in
    let may = MayWork c.args.queue.now.table.shared.table_id (length c.args.jobs.now) in (
      (All-head may _ _ (All-same may _ _ (sym split.0) c.requires.may), c.requires.ready),
      (
        omega (arith, c.decreases, split.1),
        (
          (λ a m. m),
          (
            (λ a m. m),
            (
              (
                search rules,
                search rules,
                omega (arith, split.1, reported_at.1, c.requires.lengths),
                c.requires.ready,
                All-rest may _ _ _ split.0 c.requires.may,
              ),
              (search rules, search rules),
            ),
          ),
        ),
      ),
    )
