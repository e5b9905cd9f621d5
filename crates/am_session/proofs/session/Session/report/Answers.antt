use Rattle.std.proofs.Common.{◌∙◌, [], inl, inr, ℕ, Ok, codes, refl, sym}
use Rattle.am_protocol.specs.Reply.{named}
use Rattle.am_protocol.specs.declared.request.Request.TheVariants.{Report}
use Rattle.am_session.proofs.Leaving.{lacks_ticket, not_open_leaves, report_refused, report_unmade, unmade_leaves, untold_all}
use Rattle.am_session.proofs.Making.{reports, answered_ok}
use Rattle.am_session.proofs.Rising.{rising-recorded}
use Rattle.am_session.proofs.session.Session.report.Goals as goal

pub returns-in-Ok-clause-answered : goal.returns-in-Ok-clause-answered
returns-in-Ok-clause-answered c =
    reports _ _ _ _ _ _ _ _ refl c.in-Some.ensures.first c.in-Ok.ensures.ok
    (answered_ok _ _ _ c.answered.ensures.ok c.write_named.ensures)

pub returns-in-Ok-clause-refused : goal.returns-in-Ok-clause-refused
returns-in-Ok-clause-refused c =
    untold_all _ _ _ (Report c.args.reporting) c.answered.ensures.err (λ e. absurd (cc)) (
      named (codes "reported") [],
      (reports {T = ℕ} {E = ℕ} (Ok 0) _ _ _ [] (named (codes "reported") []) _ _ refl c.in-Some.ensures.first c.in-Ok.ensures.ok refl, refl),
    )

pub returns-in-Err-clause-refused : goal.returns-in-Err-clause-refused
returns-in-Err-clause-refused c =
    unmade_leaves _ c.args.self.now _ (Report c.args.reporting) (report_unmade _ _ c.of_report.ensures)
    (inr (report_refused c.args.self.now c.args.reporting _ _ _ _ refl c.in-Some.ensures.first c.in-Err.ensures.fault c.of_report.ensures))
    (refl, c.in-Err.ensures.err)

pub returns-in_default-clause-refused : goal.returns-in_default-clause-refused
returns-in_default-clause-refused c =
    not_open_leaves _ c.args.self.now _ (Report c.args.reporting) _ c.not_open.ensures
    (inl (lacks_ticket c.args.self.now _ _ _ _ refl (sym c.in_default.is ∙ c.find_ticket.ensures.first) c.not_open.ensures)) (refl, refl)

pub invariant_of-self-2-clause-rising : goal.invariant_of-self-2-clause-rising
invariant_of-self-2-clause-rising c rising =
    rising-recorded c.record_at.result c.args.self.now.tickets.items c.record_at.new.tickets.items c.in-Some.index c.args.reporting.integration c.args.reporting.outcome
    c.in-Some.ensures.within c.record_at.ensures.ok c.record_at.ensures.err (c.args.self.now.rising rising)
