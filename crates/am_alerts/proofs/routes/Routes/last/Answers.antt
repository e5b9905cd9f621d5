use Rattle.std.proofs.Common.{◌∙◌, arith}
use Rattle.am_alerts.proofs.Layouts.{kept_last, kept_sound}
use Rattle.am_alerts.proofs.Trees.{few_routes}
use Rattle.am_alerts.proofs.routes.Routes.last.Goals as goal

pub overflow_cast-result : goal.overflow_cast-result
overflow_cast-result c =
    let last = kept_last c.self.inside.root c.self.inside.children c.self.inside.layouts c.args.self.now c.self.view_is c.self.invariant in
    let few = few_routes c.args.self.now
    (kept_sound c.self.inside.root c.self.inside.children c.self.inside.layouts c.args.self.now c.self.view_is c.self.invariant) in
    omega (arith, c.len.ensures, last, few)

pub returns-clause-last : goal.returns-clause-last
returns-clause-last c =
    c.len.ensures ∙ kept_last c.self.inside.root c.self.inside.children c.self.inside.layouts c.args.self.now c.self.view_is c.self.invariant

pub returns-clause-few : goal.returns-clause-few
returns-clause-few c =
    let last = kept_last c.self.inside.root c.self.inside.children c.self.inside.layouts c.args.self.now c.self.view_is c.self.invariant in
    let few = few_routes c.args.self.now
    (kept_sound c.self.inside.root c.self.inside.children c.self.inside.layouts c.args.self.now c.self.view_is c.self.invariant) in
    omega (arith, c.len.ensures, last, few)
