use Rattle.std.proofs.Common.{◌≡◌, ◌∙◌, ap, false, option_copied, sym, true}
use Rattle.am_plans.proofs.Decodings.{denied_by, denied_on, fails_denied}
use Rattle.am_plans.proofs.NoRegex.{fifth_fails, first_fails, fourth_fails, second_fails, third_fails}
use Rattle.am_plans.specs.Expected.{are_inserted, has_alerts, is_matched, wants_none}
use Rattle.am_plans.proofs.expectation.alerts.check_alerts.Goals as goal

pub returns-in_err-check_some-clause-refused : goal.returns-in_err-check_some-clause-refused
returns-in_err-check_some-clause-refused c =
    denied_by (has_alerts c.args.last c.args.plans.now c.args.wanted.now ≡ false) c.from_residual.result
    (first_fails (wants_none c.args.wanted.now) (is_matched c.args.last c.args.plans.now false c.args.wanted.now.has) (is_matched c.args.last c.args.plans.now true c.args.wanted.now.has_resolved) (are_inserted c.args.last c.args.plans.now false c.args.wanted.now.firing) (are_inserted c.args.last c.args.plans.now true c.args.wanted.now.resolved) c.in_err-check_some.ensures.refused)

pub returns-in_err-check_matched-clause-refused : goal.returns-in_err-check_matched-clause-refused
returns-in_err-check_matched-clause-refused c =
    denied_on (has_alerts c.args.last c.args.plans.now c.args.wanted.now ≡ false) c.from_residual-in_err-check_matched.result c.in_err-check_matched.field-0.0 c.from_residual-in_err-check_matched.ensures.1
    (λ refusal. second_fails (wants_none c.args.wanted.now) (is_matched c.args.last c.args.plans.now false c.args.wanted.now.has) (is_matched c.args.last c.args.plans.now true c.args.wanted.now.has_resolved) (are_inserted c.args.last c.args.plans.now false c.args.wanted.now.firing) (are_inserted c.args.last c.args.plans.now true c.args.wanted.now.resolved)
    (ap (is_matched c.args.last c.args.plans.now false) (sym c.as_ref.ensures.value) ∙ c.in_err-check_matched.ensures.refused refusal))

pub returns-in_err-check_matched-2-clause-refused : goal.returns-in_err-check_matched-2-clause-refused
returns-in_err-check_matched-2-clause-refused c =
    denied_on (has_alerts c.args.last c.args.plans.now c.args.wanted.now ≡ false) c.from_residual-in_err-check_matched-2.result c.in_err-check_matched-2.field-0.0 c.from_residual-in_err-check_matched-2.ensures.1
    (λ refusal. third_fails (wants_none c.args.wanted.now) (is_matched c.args.last c.args.plans.now false c.args.wanted.now.has) (is_matched c.args.last c.args.plans.now true c.args.wanted.now.has_resolved) (are_inserted c.args.last c.args.plans.now false c.args.wanted.now.firing) (are_inserted c.args.last c.args.plans.now true c.args.wanted.now.resolved)
    (ap (is_matched c.args.last c.args.plans.now true) (sym c.as_ref-2.ensures.value) ∙ c.in_err-check_matched-2.ensures.refused refusal))

pub returns-in_err-check_sets-clause-refused : goal.returns-in_err-check_sets-clause-refused
returns-in_err-check_sets-clause-refused c =
    denied_by (has_alerts c.args.last c.args.plans.now c.args.wanted.now ≡ false) c.from_residual-in_err-check_sets.result
    (fourth_fails (wants_none c.args.wanted.now) (is_matched c.args.last c.args.plans.now false c.args.wanted.now.has) (is_matched c.args.last c.args.plans.now true c.args.wanted.now.has_resolved) (are_inserted c.args.last c.args.plans.now false c.args.wanted.now.firing) (are_inserted c.args.last c.args.plans.now true c.args.wanted.now.resolved)
    (ap (are_inserted c.args.last c.args.plans.now false) (sym c.as_ref-3.ensures.value) ∙ c.in_err-check_sets.ensures.refused))

pub returns-clause-refused : goal.returns-clause-refused
returns-clause-refused c =
    fails_denied (are_inserted c.args.last c.args.plans.now true (option_copied c.as_ref-4.result) ≡ false) (has_alerts c.args.last c.args.plans.now c.args.wanted.now ≡ false)
    (λ fails. fifth_fails (wants_none c.args.wanted.now) (is_matched c.args.last c.args.plans.now false c.args.wanted.now.has) (is_matched c.args.last c.args.plans.now true c.args.wanted.now.has_resolved) (are_inserted c.args.last c.args.plans.now false c.args.wanted.now.firing) (are_inserted c.args.last c.args.plans.now true c.args.wanted.now.resolved)
    (ap (are_inserted c.args.last c.args.plans.now true) (sym c.as_ref-4.ensures.value) ∙ fails))
    c.check_sets-2.result c.check_sets-2.ensures.refused
