use Rattle.std.proofs.Common.{◌-◌, ◌∙◌, ap, arith}
use Rattle.am_alerts.specs.RouteLayouts.{muted_in}
use Rattle.am_alerts.proofs.Layouts.{kept_muted}
use Rattle.am_alerts.proofs.routes.Routes.muted.Goals as goal

pub returns-else-position-eq0 : goal.returns-else-position-eq0
returns-else-position-eq0 c =
    c.muted_in.ensures ∙ ap (λ ps. muted_in ps (c.args.position - 1)) c.as_slice.ensures
    ∙ kept_muted c.self.inside.root c.self.inside.children c.self.inside.layouts c.args.self.now c.self.view_is c.self.invariant
    c.args.position (omega arith) c.requires
