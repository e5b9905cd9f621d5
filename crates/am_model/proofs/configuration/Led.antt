-- Whether an alert goes to a group, by its routes and its group labels.
use Rattle.std.proofs.Common.{◌≡◌, ◌∙◌, ℕ, Bool, true, false, ◌&&◌, ◌||◌, List, [], ◌∷◌, refl, sym, ap}
use Rattle.std.specs.Prelude.{◌==◌}
use Rattle.std.specs.List.{list_any}
use Rattle.std.proofs.lemmas.Bool.{eqb-true}
use Rattle.std.proofs.lemmas.Cmp.{nat_eq_equiv}
use Rattle.am_alerts.specs.Labels.{same_label_set}
use Rattle.am_alerts.specs.Route.{group_labels_of}
use Rattle.am_alerts.specs.RoutingTree.{route_at, routes_of}
use Rattle.am_alerts.specs.declared.labels.Label.{Label}
use Rattle.am_model.specs.declared.config.Config.{Config}
use Rattle.am_model.specs.declared.group.GroupName.{GroupName}
use Rattle.am_model.specs.Insert.{name_in, names_for}
use Rattle.am_model.specs.State.{same_name}
use Rattle.am_model.proofs.lists.Sets.{any-map}

absorbs : (own any : Bool) → (own || (any && own)) ≡ own
absorbs true any = refl
absorbs false true = refl
absorbs false false = refl

module _ (config : Config) (name : GroupName) (labels : List Label) where
  -- whether an alert with these labels has the group's labels under the group's route
  abbrev pub has_labels : Bool
  has_labels = same_label_set name.labels (group_labels_of (route_at config.routes name.route) labels)

  leads-by : (routes : List ℕ) → list_any (λ r. same_name name (name_in config labels r)) routes ≡ (list_any (λ q. q == name.route) routes && has_labels)
  leads-by [] = refl
  leads-by (r ∷ routes) =
      let any = list_any (λ q. q == name.route) routes in
      let rest : list_any (λ q. same_name name (name_in config labels q)) routes ≡ (any && has_labels) = leads-by routes in
      elim (name.route == r) as (λ b. (name.route == r) ≡ b
      → ((b && same_label_set name.labels (group_labels_of (route_at config.routes r) labels)) || list_any (λ q. same_name name (name_in config labels q)) routes)
      ≡ (((r == name.route) || any) && has_labels)) [
        | true ↦ λ e.
            let same : r ≡ name.route = sym (eqb-true name.route r e) in
            (λ i. same_label_set name.labels (group_labels_of (route_at config.routes (same i)) labels) || rest i)
            ∙ absorbs has_labels any
            ∙ sym (ap (λ b. (b || any) && has_labels) (nat_eq_equiv.symm r name.route ∙ e))
        | false ↦ λ e. rest ∙ sym (ap (λ b. (b || any) && has_labels) (nat_eq_equiv.symm r name.route ∙ e))
      ] refl

  -- an alert goes to a group exactly if the group's route is one of its routes, under which it has the group's labels
  pub leads-is : list_any (same_name name) (names_for config labels) ≡ (list_any (λ q. q == name.route) (routes_of config.routes labels) && has_labels)
  leads-is = any-map (same_name name) (name_in config labels) (routes_of config.routes labels) ∙ leads-by (routes_of config.routes labels)
