use Rattle.std.proofs.Common.{◌≡◌, ◌∙◌, ℕ, ap, refl, subst, sym}
use Rattle.am_model.specs.Notice.{NoticeData}
use Rattle.am_pool.specs.Delivery.{IsDelivery, with_deadline}
use Rattle.am_simulation.specs.Answers.{answer_of, tried_by, tried_until}
use Rattle.am_simulation.proofs.Delivered.{delivered}
use Rattle.am_simulation.proofs.sending.end_of.Goals as goal

pub returns : goal.returns
returns g c =
    let cut = g.O.Outages.cut in
    let n = c.args.notice.now in
    let old = c.args.courier.now in
    let new = c.deliver_by-report.new.courier in
    let report = c.deliver_by-report.result in
    let until : c.tried_until-deadline.result ≡ tried_until cut n.deadline =
    c.tried_until-deadline.ensures.until ∙ ap (λ (m : NoticeData). tried_until cut m.deadline) c.notice.view_is
    in
    let delivery =
    subst (λ (d : ℕ). IsDelivery (with_deadline d n) c.args.start old.trace.tries old.trace.refusals new.trace.tries new.trace.refusals report) until
    c.deliver_by-report.ensures.delivery
    in (
      refl,
      refl,
      (
        sym c.nothing.ensures.nothing ∙ c.if-nothing.false,
        delivered (answer_of cut g.O.Outages.outages g.O.Outages.receiver) (tried_by cut n) c.args.start old.trace.tries new.trace.tries old.trace.refusals new.trace.refusals report
            c.deliver_by-report.ensures.of_notice delivery new.answered old.willing new.willing,
      ),
    )
