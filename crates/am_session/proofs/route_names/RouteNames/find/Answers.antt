use Rattle.std.proofs.Common.{◌∙◌}
use Rattle.am_session.proofs.route_names.RouteNames.find.Goals as goal

pub returns : goal.returns
returns c = λ tree is. c.copied.ensures ∙ c.get.ensures.value ∙ c.self.invariant tree (c.self.view_is ∙ is) c.args.name.now
