use Rattle.std.proofs.Common.{sym, ap, ◌∙◌}
use Rattle.am_model.specs.Configured.{route_of}
use Rattle.am_model.proofs.configuration.GroupReceiver.{integrations_in, integrations-found}
use Rattle.am_model.proofs.config.Config.integrations_of.Goals as goal

pub returns-in-None : goal.returns-in-None
returns-in-None c =
    ap integrations_in (rw (c.as_str.ensures, c.route_of.ensures, c.in-None.is) at c.receiver.ensures)
    ∙ sym (integrations-found (route_of c.args.self.now c.args.group.now).receiver c.args.self.now.receivers)

pub returns-in-Some : goal.returns-in-Some
returns-in-Some c =
    c.as_slice.ensures
    ∙ ap integrations_in (rw (c.as_str.ensures, c.route_of.ensures, c.in-Some.is) at c.receiver.ensures)
    ∙ sym (integrations-found (route_of c.args.self.now c.args.group.now).receiver c.args.self.now.receivers)
