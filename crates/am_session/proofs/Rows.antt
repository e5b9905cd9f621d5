-- The rows that lines name.
use Rattle.std.proofs.Common.{◌≡◌, ◌<◌, ◌≤◌, ◌+◌, ◌==◌, ◌∙◌, ℕ, List, [], ◌∷◌, Option, Some, None, ap, arith, if◌then◌else◌, length, refl, subst, sym}
use Rattle.std.proofs.lemmas.List.{length-map}
use Rattle.am_alerts.proofs.Layouts.{length_listed}
use Rattle.am_alerts.specs.Forest.{listed}
use Rattle.am_alerts.specs.Route.{group_labels_of}
use Rattle.am_alerts.specs.RoutingTree.{RoutingTree, TreeRoute, children_of, last_of, route_at}
use Rattle.am_alerts.specs.declared.labels.Label.{Label}
use Rattle.am_alerts.specs.declared.route.Child.{Child}
use Rattle.am_session.specs.Row.{no_labels}

-- a route behind the root is at a position of the tree
pub within_routes : (tree : RoutingTree) (seen : List Child) (index : ℕ) → seen ≡ children_of tree → index < length seen → index + 1 ≤ last_of tree
within_routes tree seen index is within =
    omega (
      arith,
      within,
      ap length is,
      length-map (listed tree.below) (λ (r : TreeRoute). r.child),
      length_listed tree.below,
    )

-- the group of the alert that is there has no labels
pub no_labels_there : (tree : RoutingTree) (route : ℕ) (found : Option (List Label)) (alert labels : List Label)
    → found ≡ Some alert → labels ≡ group_labels_of (route_at tree route) alert → length labels ≡ 0
    → Some labels ≡ no_labels tree route found
no_labels_there tree route found alert [] is are none =
    let empty : Option (List Label) = Some [] in
    let none_there : empty ≡ no_labels tree route (Some alert) =
    subst (λ (ls : List Label). empty ≡ (if length ls == 0 then empty else None)) are refl in
    none_there ∙ sym (ap (no_labels tree route) is)
no_labels_there tree route found alert (l ∷ ls) is are none = absurd (omega (arith, none))
