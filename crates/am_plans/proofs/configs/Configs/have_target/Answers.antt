use Rattle.std.proofs.Common.{◌∙◌, sym}
use Rattle.am_model.specs.declared.config.Config.{Config}
use Rattle.am_plans.proofs.SomeHave.{one_of_others}
use Rattle.am_plans.specs.Decoding.{has_target}
use Rattle.am_terms.specs.declared.dispatcher_change.DispatcherChange.{DispatcherChange}
use Rattle.am_plans.proofs.configs.Configs.have_target.Goals as goal

pub returns-else-has_target : goal.returns-else-has_target
returns-else-has_target c =
    let configs = c.args.self.now in
    let name = c.args.receiver.now in
    let position = c.args.position in
    c.later_has_target.ensures
    ∙ sym (one_of_others (λ (config : Config). has_target config name position) (λ (h : DispatcherChange). h.config) (has_target configs.own.now name position) configs.later.now
    (sym c.has_target.ensures ∙ c.if-has_target.false))
