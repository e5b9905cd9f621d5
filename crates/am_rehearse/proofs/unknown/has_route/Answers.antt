use Rattle.std.proofs.Common.{◌∙◌, ℕ, List, ap, sym}
use Rattle.std.specs.List.{list_any}
use Rattle.std.specs.Str.{bytes_eq}
use Rattle.am_alerts.specs.RoutingTree.{children_of}
use Rattle.am_alerts.specs.declared.route.Child.{Child}
use Rattle.am_alerts.specs.declared.route.Route.{Route}
use Rattle.am_plans.proofs.SomeHave.{one_of_others}
use Rattle.am_rehearse.proofs.unknown.has_route.Goals as goal

pub returns-else-eq : goal.returns-else-eq
returns-else-eq c =
    let routes = c.args.config.now.routes in
    let name = c.args.name.now in
    c.is_child.ensures
    ∙ ap (λ (children : List Child). list_any (λ child. bytes_eq child.route.name name) children) c.children.ensures.children
    ∙ sym (one_of_others (λ (r : Route). bytes_eq r.name name) (λ (child : Child). child.route) (bytes_eq routes.root.name name) (children_of routes)
    (ap (λ (text : List ℕ). bytes_eq text name) (sym (c.as_str.ensures ∙ ap (λ (r : Route). r.name) c.root.ensures.root)) ∙ sym c.eq.ensures ∙ c.if-eq.false))
