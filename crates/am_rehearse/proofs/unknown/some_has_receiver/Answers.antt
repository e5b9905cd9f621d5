use Rattle.std.proofs.Common.{◌∙◌, sym}
use Rattle.am_model.specs.Config.{has_receiver}
use Rattle.am_model.specs.declared.config.Config.{Config}
use Rattle.am_plans.proofs.SomeHave.{one_of_others}
use Rattle.am_terms.specs.declared.dispatcher_change.DispatcherChange.{DispatcherChange}
use Rattle.am_rehearse.proofs.unknown.some_has_receiver.Goals as goal

pub returns-else-has : goal.returns-else-has
returns-else-has c =
    let name = c.args.name.now in
    c.later_has_receiver.ensures
    ∙ sym (one_of_others (λ (config : Config). has_receiver config.receivers name) (λ (h : DispatcherChange). h.config) (has_receiver c.args.own.now.receivers name)
    c.args.later.now (sym c.has.ensures ∙ c.if-has.false))
