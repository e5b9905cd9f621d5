use Rattle.std.proofs.Common.{◌≡◌, ◌+◌, ◌<◌, ◌++◌, ◌∷◌, ◌∙◌, [], false, List, length, take, ap, subst, sym, arith}
use Rattle.std.proofs.lemmas.List.{take_all, take_more}
use Rattle.std.specs.List.{flat_map, list_all}
use Rattle.am_plans.proofs.Decodings.{denied_on}
use Rattle.am_plans.proofs.Makes.{fails_at}
use Rattle.am_plans.proofs.Plans.{adds_more, adds_nothing}
use Rattle.am_plans.specs.Planned.{AddsPlans, inserts_of, may_insert_all}
use Rattle.am_plans.specs.declared.alert.AlertItem.{AlertItem}
use Rattle.am_plans.proofs.planned.add_alerts.Goals as goal

pub loop-item-init : goal.loop-item-init
loop-item-init c = adds_nothing _

pub loop-item-preserved : goal.loop-item-preserved
loop-item-preserved c =
    let alerts = c.args.alerts.now in
    let i = c.loop-item.item in
    let alert : AlertItem = c.index-alerts-item.result in
    let here : i < length alerts = omega arith in
    let taken : take (i + 1) alerts ≡ take i alerts ++ alert ∷ [] =
    take_more alerts i alert here ∙ ap (λ (a : AlertItem). take i alerts ++ a ∷ []) (sym c.index-alerts-item.is) in
    adds_more inserts_of alerts i alert _ _ _ taken c.loop-item.invariant c.in_ok-add_alert.ensures.adds

pub returns-clause-adds : goal.returns-clause-adds
returns-clause-adds c =
    let alerts = c.args.alerts.now in
    subst (λ (l : List AlertItem). AddsPlans c.args.planned.now.items c.loop-item.planned.items (flat_map inserts_of l)) (take_all c.loop-item.item alerts (omega arith)) c.loop-item.invariant

pub returns-in_err-add_alert-clause-refused : goal.returns-in_err-add_alert-clause-refused
returns-in_err-add_alert-clause-refused c =
    let alerts = c.args.alerts.now in
    let here : c.loop-item.item < length alerts = omega arith in
    denied_on (list_all may_insert_all alerts ≡ false) c.from_residual.result c.in_err-add_alert.field-0.0 c.from_residual.ensures.1
    (λ refusal. fails_at may_insert_all alerts c.loop-item.item c.index-alerts-item.result here c.index-alerts-item.is (c.in_err-add_alert.ensures.refused refusal))
