use Rattle.std.proofs.Common.{◌≡◌, ◌∙◌, ◌==◌, Option, Some, None, sym, ap, subst, rules}
use Rattle.std.specs.Prelude.{position, IfErr}
use Rattle.am_model.specs.Causes.{notified_cause}
use Rattle.am_board.specs.Refinement.{notified_state_of, flush_state}
use Rattle.am_model.specs.Note.{notified_by}
use Rattle.am_model.specs.State.{NotifiedState}
use Rattle.am_board.specs.declared.flush.Notified.{Notified}
use Rattle.am_board.proofs.lemmas.note.Noting.{notified-missing, notified-found}
use Rattle.am_board.proofs.note.find_ready.Goals as goal

pub returns-in_default-clause-cause : goal.returns-in_default-clause-cause
returns-in_default-clause-cause c config records s =
    let at : position (λ x. x.key.integration == c.args.integration) c.args.flush.now.notified.items ≡ None =
    ap (position (λ (x : Notified). x.key.integration == c.args.integration)) (sym c.as_slice.ensures.value) ∙ (sym c.find_notified.ensures.first ∙ search rules) in
    ap (notified_cause config records s c.args.outcome) (notified-missing c.args.flush.now c.args.integration at)

pub returns-in_err-check_ready-clause-cause : goal.returns-in_err-check_ready-clause-cause
returns-in_err-check_ready-clause-cause c config records s =
    let at : position (λ x. x.key.integration == c.args.integration) c.args.flush.now.notified.items ≡ Some c.in-Some.a =
    ap (position (λ (x : Notified). x.key.integration == c.args.integration)) (sym c.as_slice.ensures.value) ∙ sym c.in-Some.ensures.first in
    let there : notified_by (flush_state c.args.flush.now) c.args.integration ≡ Some (notified_state_of c.index.result.now) =
    notified-found c.args.flush.now c.args.integration c.in-Some.a c.index.result.now at ∙ ap (λ (x : Notified). Some (notified_state_of x)) (sym c.index.ensures) in
    let cause : IfErr c.from_residual.result (λ fault. notified_cause config records s c.args.outcome (Some (notified_state_of c.index.result.now)) ≡ Some fault) = search (rules, c.in_err-check_ready.ensures.cause config records s) in
    subst (λ (o : Option NotifiedState). IfErr c.from_residual.result (λ fault. notified_cause config records s c.args.outcome o ≡ Some fault)) (sym there) cause
