use Rattle.std.proofs.Common.{◌∙◌}
use Rattle.am_alerts.proofs.Layouts.{kept_children}
use Rattle.am_alerts.proofs.routes.Routes.children.Goals as goal

pub returns-clause-children : goal.returns-clause-children
returns-clause-children c =
    c.as_slice.ensures ∙ kept_children c.self.inside.root c.self.inside.children c.self.inside.layouts c.args.self.now c.self.view_is
    c.self.invariant
