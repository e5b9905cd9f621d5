use Rattle.std.proofs.Common.{◌≡◌, ◌-◌, ◌∙◌, ap, arith}
use Rattle.am_alerts.specs.RouteLayouts.{below_in}
use Rattle.am_alerts.specs.RoutingTree.{below_at}
use Rattle.am_alerts.proofs.Layouts.{below_at-small, kept_below, kept_sound}
use Rattle.am_alerts.proofs.Trees.{few_routes}
use Rattle.am_alerts.proofs.routes.Routes.below.Goals as goal

pub overflow_cast-result : goal.overflow_cast-result
overflow_cast-result c =
    let small = below_at-small c.self.inside.root c.self.inside.children c.self.inside.layouts c.args.self.now c.self.view_is
    c.self.invariant c.args.position in
    let few = few_routes c.args.self.now
    (kept_sound c.self.inside.root c.self.inside.children c.self.inside.layouts c.args.self.now c.self.view_is c.self.invariant) in
    let same : c.below_in.result ≡ below_at c.args.self.now c.args.position =
    c.below_in.ensures ∙ ap (λ ps. below_in ps (c.args.position - 1)) c.as_slice.ensures
    ∙ kept_below c.self.inside.root c.self.inside.children c.self.inside.layouts c.args.self.now c.self.view_is c.self.invariant
    c.args.position c.requires.some c.requires.exists in
    omega (arith, same, small, few)

pub returns : goal.returns
returns c =
    c.below_in.ensures ∙ ap (λ ps. below_in ps (c.args.position - 1)) c.as_slice.ensures
    ∙ kept_below c.self.inside.root c.self.inside.children c.self.inside.layouts c.args.self.now c.self.view_is c.self.invariant
    c.args.position c.requires.some c.requires.exists
