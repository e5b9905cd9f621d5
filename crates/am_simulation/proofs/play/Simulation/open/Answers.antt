use Rattle.std.proofs.Common.{◌∙◌}
use Rattle.am_model.specs.Config.{config_fault}
use Rattle.am_simulation.proofs.Hindering.{config_refused, handed_on}
use Rattle.am_simulation.proofs.Opened.{opened}
use Rattle.am_simulation.specs.Scene.{setting_with}
use Rattle.am_simulation.proofs.play.Simulation.open.Goals as goal

pub returns-clause-scene : goal.returns-clause-scene
returns-clause-scene c =
    opened (setting_with c.args.part.until c.args.conditions.now.upkeep c.args.conditions.now.outages.now c.args.part.span) c.args.part.config c.args.part.plans.items _ _ _ _ _
    c.in_ok-new.ensures.board c.in_ok-new.ensures.events c.from_vec.ensures.items c.new-2.ensures c.saturating_add.ensures

pub returns-in_err-new-clause-refused : goal.returns-in_err-new-clause-refused
returns-in_err-new-clause-refused c =
    let why = config_refused (config_fault c.args.part.config) c.in_err-new.field-0.0 c.in_err-new.ensures.refused in
    handed_on c.from_residual.result _ _ (λ fault is. (is ∙ why.0, why.1)) c.from_residual.ensures.1
