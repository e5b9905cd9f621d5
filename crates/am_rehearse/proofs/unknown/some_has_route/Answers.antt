use Rattle.std.proofs.Common.{◌∙◌, sym}
use Rattle.am_model.specs.declared.config.Config.{Config}
use Rattle.am_plans.proofs.SomeHave.{one_of_others}
use Rattle.am_terms.specs.declared.dispatcher_change.DispatcherChange.{DispatcherChange}
use Rattle.am_rehearse.specs.Ended.{has_route}
use Rattle.am_rehearse.proofs.unknown.some_has_route.Goals as goal

pub returns-else-has_route : goal.returns-else-has_route
returns-else-has_route c =
    let name = c.args.name.now in
    c.later_has_route.ensures
    ∙ sym (one_of_others (λ (config : Config). has_route config name) (λ (h : DispatcherChange). h.config) (has_route c.args.own.now name)
    c.args.later.now (sym c.has_route.ensures ∙ c.if-has_route.false))
