use Rattle.std.proofs.Common.{◌≡◌, ◌-◌, get_or, ap, ◌∙◌, arith, sym, subst, IsTrue}
use Rattle.am_alerts.specs.Route.{has_good_intervals}
use Rattle.am_alerts.specs.RoutingTree.{route_at}
use Rattle.am_alerts.specs.declared.route.Route.{Route}
use Rattle.am_alerts.proofs.Layouts.{kept_children, kept_last, kept_sound}
use Rattle.am_alerts.proofs.Trees.{child_at, good_intervals-at}
use Rattle.am_alerts.proofs.routes.Routes.route.Goals as goal

pub bounds-as_slice-position : goal.bounds-as_slice-position
bounds-as_slice-position c =
    let last = kept_last c.self.inside.root c.self.inside.children c.self.inside.layouts c.args.self.now c.self.view_is c.self.invariant in
    rw c.as_slice.ensures (omega (arith, last, c.requires))

pub returns-else-position-eq0-clause-route : goal.returns-else-position-eq0-clause-route
returns-else-position-eq0-clause-route c =
    let last = kept_last c.self.inside.root c.self.inside.children c.self.inside.layouts c.args.self.now c.self.view_is c.self.invariant in
    let children = kept_children c.self.inside.root c.self.inside.children c.self.inside.layouts c.args.self.now c.self.view_is
    c.self.invariant in
    ap (λ cs. (get_or cs (c.args.position - 1) c.index-as_slice-position.result).route) c.as_slice.ensures
    ∙ child_at c.args.self.now c.self.inside.children c.args.position c.index-as_slice-position.result (sym children) (omega arith)
    (omega (arith, last, c.requires))

pub returns-else-position-eq0-clause-intervals : goal.returns-else-position-eq0-clause-intervals
returns-else-position-eq0-clause-intervals c =
    let last = kept_last c.self.inside.root c.self.inside.children c.self.inside.layouts c.args.self.now c.self.view_is c.self.invariant in
    let children = kept_children c.self.inside.root c.self.inside.children c.self.inside.layouts c.args.self.now c.self.view_is
    c.self.invariant in
    let sound = kept_sound c.self.inside.root c.self.inside.children c.self.inside.layouts c.args.self.now c.self.view_is c.self.invariant in
    let same : (get_or c.as_slice.result.now (c.args.position - 1) c.index-as_slice-position.result).route ≡ route_at c.args.self.now
    c.args.position =
    ap (λ cs. (get_or cs (c.args.position - 1) c.index-as_slice-position.result).route) c.as_slice.ensures
    ∙ child_at c.args.self.now c.self.inside.children c.args.position c.index-as_slice-position.result (sym children) (omega arith)
    (omega (arith, last, c.requires)) in
    let P : Route → Type 0 = λ r. IsTrue (has_good_intervals r) in
    subst P (sym same) (good_intervals-at c.args.self.now c.args.position sound c.requires)
