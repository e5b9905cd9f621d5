use Rattle.std.proofs.Common.{◌≡◌, length, arith}
use Rattle.am_pool.proofs.Sending.{shared_none, are_sent, are_reports, refused}
use Rattle.am_pool.proofs.pool.run_jobs.Goals as goal

pub returns-then-is_empty-2-clause-reports : goal.returns-then-is_empty-2-clause-reports
returns-then-is_empty-2-clause-reports g c =
    let none : length c.args.jobs.now ≡ 0 = grind (arith, c.if-is_empty-2.ensures) in
    are_reports _ g.C.Courier.tries g.C.Courier.refusals _ _ _ (shared_none _ _ _ c.args.couriers.now _ none c.new.ensures.items)

pub returns-then-is_empty-2-clause-sent : goal.returns-then-is_empty-2-clause-sent
returns-then-is_empty-2-clause-sent g c =
    let none : length c.args.jobs.now ≡ 0 = grind (arith, c.if-is_empty-2.ensures) in
    are_sent _ _ _ _ _ _ (shared_none _ _ _ _ _ none c.new.ensures.items)

pub returns-clause-reports : goal.returns-clause-reports
returns-clause-reports g c = are_reports _ _ _ _ _ _ c.in_ok-send_all.ensures.shared

pub returns-clause-sent : goal.returns-clause-sent
returns-clause-sent g c = are_sent _ _ _ _ _ _ c.in_ok-send_all.ensures.shared

pub returns-clause-refused : goal.returns-clause-refused
returns-clause-refused g c = refused _ _ _ _ _ _ c.in_ok-send_all.ensures.shared
