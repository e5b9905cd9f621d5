use Rattle.std.proofs.Common.{◌||◌, Bool, sym, ap, ◌∙◌, map}
use Rattle.am_alerts.specs.Labels.{has_text_twice}
use Rattle.am_alerts.specs.declared.route.Child.{Child}
use Rattle.am_alerts.proofs.Trees.{occurs_in-children}
use Rattle.am_alerts.proofs.route.has_route_twice.Goals as goal

pub returns-then-has_route : goal.returns-then-has_route
returns-then-has_route c =
    let twice = has_text_twice (map (λ (d : Child). d.route.name) c.args.children.now) in
    let root = occurs_in-children c.args.root.now.name c.args.children.now in
    c.if-has_route.true
    ∙ sym (ap (λ (b : Bool). b || twice) (root ∙ sym (rw c.as_str.ensures at c.has_route.ensures) ∙ c.if-has_route.true))

pub returns-else-has_route : goal.returns-else-has_route
returns-else-has_route c =
    let twice = has_text_twice (map (λ (d : Child). d.route.name) c.args.children.now) in
    let root = occurs_in-children c.args.root.now.name c.args.children.now in
    c.has_child_twice.ensures
    ∙ sym (ap (λ (b : Bool). b || twice) (root ∙ sym (rw c.as_str.ensures at c.has_route.ensures) ∙ c.if-has_route.false))
