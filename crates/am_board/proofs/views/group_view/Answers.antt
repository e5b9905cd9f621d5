use Rattle.std.proofs.Common.{◌≡◌, map, sym, ap, ◌∙◌, subst}
use Rattle.std.specs.List.{IsDistinct}
use Rattle.am_board.specs.declared.group.Member.{Member}
use Rattle.am_model.specs.Begin.{alert_cmp}
use Rattle.am_model.specs.Insert.{same_alert}
use Rattle.am_board.specs.Refinement.{member_state}
use Rattle.am_model.specs.Lists.{in_order}
use Rattle.am_model.proofs.states.InOrder.{IsDistinct-alerts}
use Rattle.am_board.proofs.lemmas.invariant.Shown.{alerts_kept}
use Rattle.am_board.proofs.views.group_view.Goals as goal

pub returns : goal.returns
returns c =
    let members = c.args.group.now.members.items in
    let alerts : c.in_ok-alerts.alerts.items ≡ map (λ m. m.alert) (map member_state members) =
    c.in_ok-alerts.ensures ∙ ap (map (λ (m : Member). m.alert)) c.as_slice.ensures.value ∙ alerts_kept members in
    let sorted = c.by_labels.ensures (subst (IsDistinct same_alert) (sym alerts) (IsDistinct-alerts (map member_state members) c.requires)) ∙ ap (in_order alert_cmp) alerts in
    λ i. record { group = c.in_ok-copy.ensures i; due = c.args.group.now.due; flushed = c.args.group.now.flushed; alerts = sorted i }
