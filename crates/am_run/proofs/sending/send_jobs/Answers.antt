use Rattle.std.specs.List.{AllZip}
use Rattle.am_pool.specs.Sent.{AreReportsOf, AreSent}
use Rattle.am_pool.specs.Sendings.{IsSendingOf}
use Rattle.am_run.proofs.lemmas.sending.Answered.{all_answered, both_ok}
use Rattle.am_run.proofs.sending.send_jobs.Goals as goal

pub returns : goal.returns
returns g c =
    let jobs = c.args.jobs.now in
    let old = c.args.couriers.now in
    let new = c.run_jobs-sent.new.couriers in
    both_ok c.run_jobs-sent.result (λ rs. AreReportsOf jobs rs.items) (λ rs. AreSent jobs rs.items g.C.Courier.tries g.C.Courier.refusals old new)
    (λ rs. AllZip (IsSendingOf g.C.Answering.answers) jobs rs.items)
    (λ rs are sent. all_answered g.C.Answering.answers jobs rs.items are g.C.Courier.tries g.C.Courier.refusals old new sent c.know_tries.ensures)
    c.run_jobs-sent.ensures.reports c.run_jobs-sent.ensures.sent
