use Rattle.std.proofs.Common.{◌≡◌, ◌∙◌, ◌==◌, Some, None, sym, ap, subst, rules}
use Rattle.std.specs.Prelude.{position, slice_get, IfErr}
use Rattle.std.specs.Option.{option_map}
use Rattle.am_model.specs.Notice.{NoticeData}
use Rattle.am_model.specs.Causes.{flush_cause, notified_cause}
use Rattle.am_board.specs.Refinement.{flush_state}
use Rattle.am_model.specs.Note.{notified_by}
use Rattle.am_model.specs.State.{flush_numbered}
use Rattle.am_model.specs.Ticket.{outcome_of}
use Rattle.am_board.specs.declared.flush.OpenFlush.{OpenFlush}
use Rattle.am_board.proofs.lemmas.note.Noting.{flush-missing, flush-found, not-ready, notice-found, outcome-found}
use Rattle.am_board.proofs.note.find_noting.Goals as goal

pub returns-in_default-clause-cause : goal.returns-in_default-clause-cause
returns-in_default-clause-cause c config records s kept =
    let at : position (λ f. f.number == c.args.ticket.now.number) c.args.flushes.now.items ≡ None =
    ap (λ n. position (λ (f : OpenFlush). f.number == n) c.args.flushes.now.items) (sym c.number.ensures) ∙ sym c.in_default.ensures.first in
    let missing : flush_numbered s.flushes c.args.ticket.now.number ≡ None =
    ap (λ fs. flush_numbered fs c.args.ticket.now.number) kept ∙ flush-missing c.args.flushes.now.items c.args.ticket.now.number at in
    ap (flush_cause config records s c.args.ticket.now c.args.index) missing

pub returns-in_default-integration_at-clause-cause : goal.returns-in_default-integration_at-clause-cause
returns-in_default-integration_at-clause-cause c config records s kept =
    let at : position (λ f. f.number == c.args.ticket.now.number) c.args.flushes.now.items ≡ Some c.in-Some.flush =
    ap (λ n. position (λ (f : OpenFlush). f.number == n) c.args.flushes.now.items) (sym c.number.ensures) ∙ sym c.in-Some.ensures.first in
    not-ready config records s c.args.ticket.now c.args.index c.args.flushes.now.items c.in-Some.flush kept at (sym c.in_default-integration_at.ensures)

pub returns-in_err-notified-clause-cause : goal.returns-in_err-notified-clause-cause
returns-in_err-notified-clause-cause c config records s kept =
    let at : position (λ f. f.number == c.args.ticket.now.number) c.args.flushes.now.items ≡ Some c.in-Some.flush =
    ap (λ n. position (λ (f : OpenFlush). f.number == n) c.args.flushes.now.items) (sym c.number.ensures) ∙ sym c.in-Some.ensures.first in
    let found : flush_numbered s.flushes c.args.ticket.now.number ≡ Some (flush_state c.index.result.now) =
    ap (λ fs. flush_numbered fs c.args.ticket.now.number) kept ∙ flush-found c.args.flushes.now.items c.args.ticket.now.number c.in-Some.flush c.index.result.now at ∙ ap (λ (f : OpenFlush). Some (flush_state f)) (sym c.index.ensures) in
    let notice : option_map (λ (n : NoticeData). n.integration) (slice_get c.args.ticket.now.notices c.args.index) ≡ Some c.in-Some-integration_at.integration = sym c.in-Some-integration_at.ensures in
    let outcome : c.outcome-outcome.result ≡ outcome_of c.args.ticket.now.outcomes c.in-Some-integration_at.integration =
    c.outcome-outcome.ensures ∙ outcome-found c.args.ticket.now.outcomes (slice_get c.args.ticket.now.notices c.args.index) c.in-Some-integration_at.integration notice in
    let cause : IfErr c.from_residual.result (λ fault. notified_cause config records s c.outcome-outcome.result (notified_by (flush_state c.index.result.now) c.in-Some-integration_at.integration) ≡ Some fault) = search (rules, c.in_err-notified.ensures.cause config records s) in
    let is : flush_cause config records s c.args.ticket.now c.args.index (flush_numbered s.flushes c.args.ticket.now.number) ≡ notified_cause config records s c.outcome-outcome.result (notified_by (flush_state c.index.result.now) c.in-Some-integration_at.integration) =
    ap (flush_cause config records s c.args.ticket.now c.args.index) found
    ∙ notice-found config records s c.args.ticket.now (flush_state c.index.result.now) (slice_get c.args.ticket.now.notices c.args.index) c.in-Some-integration_at.integration notice
    ∙ ap (λ o. notified_cause config records s o (notified_by (flush_state c.index.result.now) c.in-Some-integration_at.integration)) (sym outcome) in
    subst (λ cause. IfErr c.from_residual.result (λ fault. cause ≡ Some fault)) (sym is) cause
