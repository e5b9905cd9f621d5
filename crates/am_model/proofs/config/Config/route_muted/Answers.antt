use Rattle.std.proofs.Common.{rules, ◌<◌, [], ◌∷◌, map, ap, sym, arith}
use Rattle.std.proofs.lemmas.List.{get_or_past, length-map}
use Rattle.am_alerts.specs.Forest.{listed}
use Rattle.am_alerts.specs.RoutingTree.{TreeRoute, last_of}
use Rattle.am_alerts.specs.Spans.{muted_until}
use Rattle.am_alerts.proofs.Layouts.{length_listed}
use Rattle.am_model.proofs.config.Config.route_muted.Goals as goal

pub returns-else-group-last : goal.returns-else-group-last
returns-else-group-last c =
    let tree = c.args.self.now.routes in
    let past : last_of tree < c.args.group.now.route = search rules in
    let listed_all = length-map (listed tree.below) (λ (r : TreeRoute). r.muted) in
    sym (ap (λ spans. muted_until spans c.args.t)
    (get_or_past ([] ∷ map (λ (r : TreeRoute). r.muted) (listed tree.below)) c.args.group.now.route []
    (omega (arith, past, listed_all, length_listed tree.below))))
