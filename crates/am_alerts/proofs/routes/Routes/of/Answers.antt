use Rattle.std.proofs.Common.{◌≡◌, ◌≤◌, All, arith}
use Rattle.std.specs.List.Sorted.{IsStrictlyIncreasing}
use Rattle.std.proofs.lemmas.Result.{IfOk-weaker}
use Rattle.am_alerts.specs.RouteLayouts.{paired, tree_from}
use Rattle.am_alerts.specs.RoutingTree.{last_of, routes_of}
use Rattle.am_alerts.proofs.Layouts.{kept_last, kept_sound}
use Rattle.am_alerts.proofs.Positions.{routes_of-rises, routes_of-exist}
use Rattle.am_alerts.proofs.Trees.{few_routes}
use Rattle.am_alerts.proofs.routes.Routes.of.Goals as goal

pub routes_found-requires-clause-few : goal.routes_found-requires-clause-few
routes_found-requires-clause-few c =
    let last = kept_last c.self.inside.root c.self.inside.children c.self.inside.layouts c.args.self.now c.self.view_is c.self.invariant in
    let few = few_routes c.args.self.now
    (kept_sound c.self.inside.root c.self.inside.children c.self.inside.layouts c.args.self.now c.self.view_is c.self.invariant) in
    rw c.as_slice.ensures (omega (arith, last, few))

pub returns-clause-ascending : goal.returns-clause-ascending
returns-clause-ascending c =
    let tree = tree_from c.self.inside.root (paired c.self.inside.children c.self.inside.layouts) in
    let labels = c.args.labels.now in
    IfOk-weaker c.routes_found.result (λ v. v.items ≡ routes_of tree labels) (λ v. IsStrictlyIncreasing v.items)
    (λ v e. rw e (routes_of-rises tree labels))
    (rw (c.as_slice.ensures, c.as_slice-2.ensures) at c.routes_found.ensures)

pub returns-clause-exist : goal.returns-clause-exist
returns-clause-exist c =
    let tree = tree_from c.self.inside.root (paired c.self.inside.children c.self.inside.layouts) in
    let labels = c.args.labels.now in
    rw (← c.self.view_is)
    (IfOk-weaker c.routes_found.result (λ v. v.items ≡ routes_of tree labels) (λ v. All (λ p. p ≤ last_of tree) v.items)
    (λ v e. rw e (routes_of-exist tree labels))
    (rw (c.as_slice.ensures, c.as_slice-2.ensures) at c.routes_found.ensures))
