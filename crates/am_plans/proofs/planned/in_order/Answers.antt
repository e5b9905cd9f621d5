use Rattle.std.proofs.Common.{rules, ◌≡◌, ◌++◌, ◌&&◌, false, map, refl, sym, ap, subst, ◌∙◌}
use Rattle.std.specs.List.{flat_map, list_all}
use Rattle.am_plans.proofs.Decodings.{denied_on, starved_of}
use Rattle.am_plans.proofs.Makes.{fails_first, fails_second}
use Rattle.am_plans.proofs.Plans.{adds_both, sorted_plans}
use Rattle.am_plans.specs.Planned.{IsNumbered, inserts_of, may_insert_all, may_set, sets_from, time_cmp}
use Rattle.am_plans.specs.declared.planned.Planned.{Planned}
use Rattle.am_model.specs.Lists.{in_order}
use Rattle.am_plans.proofs.planned.in_order.Goals as goal

pub returns-clause-plans : goal.returns-clause-plans
returns-clause-plans c =
    let none = c.new-planned.result.items in
    let planned = c.add_silences.new.planned.items in
    let sorted = c.sort_unstable_by.new.self.items in
    let sets = sets_from 1 c.args.silences.items in
    let alerts : c.as_slice.result.now ≡ c.args.alerts.items = c.as_slice.ensures.value in
    let added = adds_both none c.add_alerts.new.planned.items planned (flat_map inserts_of c.as_slice.result.now) sets c.in_ok-add_alerts.ensures.adds c.in_ok-add_silences.ensures.adds in
    let start : IsNumbered none = subst IsNumbered (sym c.new-planned.ensures.items) refl in
    let plans : map (λ (p : Planned). p.plan) planned ≡ flat_map inserts_of c.args.alerts.items ++ sets =
    added.plans_are ∙ (λ i. map (λ (p : Planned). p.plan) (c.new-planned.ensures.items i) ++ (flat_map inserts_of (alerts i) ++ sets)) in
    c.in_ok-split.ensures.plans
    ∙ sorted_plans planned sorted (added.numbered start) c.sort_unstable_by.ensures.permutation c.sort_unstable_by.ensures.sorted (λ a r f' k. search rules)
    ∙ ap (in_order time_cmp) plans

pub returns-in_err-add_alerts-clause-refused : goal.returns-in_err-add_alerts-clause-refused
returns-in_err-add_alerts-clause-refused c =
    let alerts = c.args.alerts.items in
    let silences = c.args.silences.items in
    denied_on ((list_all may_insert_all alerts && list_all may_set silences) ≡ false) c.from_residual.result c.in_err-add_alerts.field-0.0 c.from_residual.ensures.1
    (λ refusal. fails_first (list_all may_insert_all alerts) (list_all may_set silences)
    (sym (ap (list_all may_insert_all) c.as_slice.ensures.value) ∙ c.in_err-add_alerts.ensures.refused refusal))

pub returns-in_err-add_silences-clause-refused : goal.returns-in_err-add_silences-clause-refused
returns-in_err-add_silences-clause-refused c =
    let alerts = c.args.alerts.items in
    let silences = c.args.silences.items in
    denied_on ((list_all may_insert_all alerts && list_all may_set silences) ≡ false) c.from_residual-in_err-add_silences.result c.in_err-add_silences.field-0.0 c.from_residual-in_err-add_silences.ensures.1
    (λ refusal. fails_second (list_all may_insert_all alerts) (list_all may_set silences) (c.in_err-add_silences.ensures.refused refusal))

pub returns-in_err-split-clause-refused : goal.returns-in_err-split-clause-refused
returns-in_err-split-clause-refused c =
    let denied = (list_all may_insert_all c.args.alerts.items && list_all may_set c.args.silences.items) ≡ false in
    starved_of denied c.from_residual-in_err-split.result (search rules)
