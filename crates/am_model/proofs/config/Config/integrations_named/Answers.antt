use Rattle.std.proofs.Common.{sym, ap, ◌∙◌}
use Rattle.am_model.proofs.configuration.GroupReceiver.{integrations_in, integrations-found}
use Rattle.am_model.proofs.config.Config.integrations_named.Goals as goal

pub returns-in-None : goal.returns-in-None
returns-in-None c =
    ap integrations_in (rw (c.in-None.is) at c.receiver.ensures)
    ∙ sym (integrations-found c.args.name.now c.args.self.now.receivers)

pub returns-in-Some : goal.returns-in-Some
returns-in-Some c =
    c.as_slice.ensures
    ∙ ap integrations_in (rw (c.in-Some.is) at c.receiver.ensures)
    ∙ sym (integrations-found c.args.name.now c.args.self.now.receivers)
