use Rattle.std.proofs.Common.{◌≡◌, ◌∙◌, List, false, ap, sym}
use Rattle.am_alerts.specs.AlertData.{alert_fault, alert_of}
use Rattle.am_alerts.specs.declared.labels.Label.{Label}
use Rattle.am_plans.proofs.Decodings.{starved_by, starved_of}
use Rattle.am_plans.proofs.Makes.{not_made}
use Rattle.am_plans.specs.Planned.{may_insert}
use Rattle.am_plans.proofs.planned.add_insert.Goals as goal

pub returns-in_err-copy-clause-refused : goal.returns-in_err-copy-clause-refused
returns-in_err-copy-clause-refused c = starved_of (may_insert c.args.labels.now c.args.starts c.args.ends ≡ false) c.from_residual.result c.from_residual.ensures.1

pub returns-in_default-clause-refused : goal.returns-in_default-clause-refused
returns-in_default-clause-refused c refusal =
    let labels : List Label = c.in_ok-copy.field-0 in
    ap (λ (ls : List Label). may_insert ls c.args.starts c.args.ends) (sym c.in_ok-copy.ensures)
    ∙ not_made (alert_fault (alert_of labels c.args.starts c.args.ends)) (alert_of labels c.args.starts c.args.ends) _ c.in_default.ensures

pub returns-clause-refused : goal.returns-clause-refused
returns-clause-refused c = starved_by (may_insert c.args.labels.now c.args.starts c.args.ends ≡ false) c.add.result c.add.ensures.starved
