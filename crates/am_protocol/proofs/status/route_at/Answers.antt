use Rattle.std.proofs.Common.{rules, ◌<◌, sym, ◌∙◌, arith}
use Rattle.std.proofs.lemmas.List.{get_or_past, length-map}
use Rattle.am_alerts.specs.Forest.{listed}
use Rattle.am_alerts.specs.RoutingTree.{TreeRoute, children_of, last_of, routes_in}
use Rattle.am_alerts.specs.declared.route.Child.{Child}
use Rattle.am_alerts.proofs.Layouts.{length_listed}
use Rattle.am_protocol.proofs.status.route_at.Goals as goal

pub returns-else-position-last : goal.returns-else-position-last
returns-else-position-last c =
    let tree = c.args.config.now.routes in
    let past : last_of tree < c.args.position = search rules in
    let several = length-map (children_of tree) (λ (child : Child). child.route) in
    let listed_all = length-map (listed tree.below) (λ (r : TreeRoute). r.child) in
    c.root.ensures.root
    ∙ sym (get_or_past (routes_in tree) c.args.position tree.root (omega (arith, past, several, listed_all, length_listed tree.below)))
