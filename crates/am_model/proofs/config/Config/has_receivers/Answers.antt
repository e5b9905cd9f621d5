use Rattle.std.proofs.Common.{◌≡◌, true, ◌&&◌, List, ◌∷◌, map, sym, ap, ◌∙◌}
use Rattle.std.specs.List.{list_all}
use Rattle.std.proofs.lemmas.List.Folds.{list_all-map}
use Rattle.am_alerts.specs.RoutingTree.{children_of}
use Rattle.am_alerts.specs.declared.route.Child.{Child}
use Rattle.am_alerts.specs.declared.route.Route.{Route}
use Rattle.am_model.specs.Config.{has_receiver}
use Rattle.am_model.specs.declared.config.Receiver.{Receiver}
use Rattle.am_model.proofs.config.Config.has_receivers.Goals as goal

-- the root's receiver is there, so the children's decide
children_decide : (receivers : List Receiver) (root : Route) (children : List Child) → has_receiver receivers root.receiver ≡ true
    → list_all (λ c. has_receiver receivers c.route.receiver) children ≡ list_all (λ r. has_receiver receivers r.receiver) (root ∷ map (λ c. c.route) children)
children_decide receivers root children there =
    sym (list_all-map (λ (r : Route). has_receiver receivers r.receiver) (λ (c : Child). c.route) children)
    ∙ ap (λ b. b && list_all (λ r. has_receiver receivers r.receiver) (map (λ c. c.route) children)) (sym there)

pub returns-then-has : goal.returns-then-has
returns-then-has c =
    let name = c.as_str.ensures ∙ ap (λ (r : Route). r.receiver) c.root.ensures.root in
    let there : has_receiver c.args.self.now.receivers c.args.self.now.routes.root.receiver ≡ true =
    sym (c.has.ensures ∙ (λ i. has_receiver c.args.self.now.receivers (name i))) ∙ c.if-has.true in
    record {
      value =
          c.have_receivers.ensures
          ∙ (λ i. list_all (λ (d : Child). has_receiver c.args.self.now.receivers d.route.receiver) (c.children-children.ensures.children i))
          ∙ children_decide c.args.self.now.receivers c.args.self.now.routes.root (children_of c.args.self.now.routes) there;
      few = c.children-children.ensures.few;
    }
