-- Carry: which rows a log under a new configuration takes over of a log under an old one, where a group of the same labels finds them:
-- whoever changes the matchers of a route keeps its rows. Alertmanager's nflog finds a row by the receiver's name, the integration's kind
-- and index, and the route's key (stateKey): `Rekey` says which those are.
use Rattle.std.specs.Prelude.{◌≡◌, true, All, ℕ, ◌+◌, ◌-◌, Bool, ◌&&◌, ◌==◌, nat_lt, List}
use Rattle.std.specs.Prelude.{[], ◌∷◌, ◌++◌, length, map, fold, take, count_by, Option, Some, None, if◌then◌else◌}
use Rattle.std.specs.List.{list_any}
use Rattle.std.specs.Str.{bytes_eq}
use Rattle.am_alerts.specs.Labels.{same_label_set}
use Rattle.am_alerts.specs.Route.{group_labels_of}
use Rattle.am_alerts.specs.RoutingTree.{route_at, routes_of}
use Rattle.am_alerts.specs.declared.labels.Label.{Label}
use Rattle.am_model.specs.declared.config.Config.{Config}
use Rattle.am_model.specs.declared.config.Integration.{Integration}
use Rattle.am_model.specs.declared.views.RowView.{RowView}
use Rattle.am_model.specs.Config.{kind_at}
use Rattle.am_model.specs.Configured.{route_of, integrations_named}
use Rattle.am_model.specs.Insert.{names_for}
use Rattle.am_model.specs.Load.{has_integration, may_load}
use Rattle.am_model.specs.State.{same_name}

-- the index of the integration at a position among those of its kind: how many of these are before it
abbrev pub index_at : List Integration → ℕ → ℕ
index_at integrations position = count_by (λ i. bytes_eq i.kind (kind_at integrations position)) (take position integrations)

-- the position of the integration of a kind that has an index among those of this kind, where the first of these integrations is at a
-- position
abbrev pub position_of : List ℕ → ℕ → ℕ → List Integration → Option ℕ
position_of kind index position [] = None
position_of kind index position (i ∷ is) =
    if bytes_eq i.kind kind then (if index == 0 then Some position else position_of kind (index - 1) (position + 1) is)
    else position_of kind index (position + 1) is

-- the position among new integrations of the one that is at a position among old ones: of the same kind, and at the same index among
-- those of its kind
abbrev pub moved_to : List Integration → ℕ → List Integration → Option ℕ
moved_to olds position news =
    if nat_lt position (length olds) then position_of (kind_at olds position) (index_at olds position) 0 news else None

-- whether the route at a position has this receiver, and puts an alert with these labels into a group of these group labels
abbrev pub inherits : Config → List ℕ → List Label → List Label → ℕ → Bool
inherits config receiver group labels position =
    bytes_eq (route_at config.routes position).receiver receiver
    && same_label_set group (group_labels_of (route_at config.routes position) labels)

-- these positions with one more, unless it is among them
abbrev pub with_position : List ℕ → ℕ → List ℕ
with_position positions p = if list_any (λ q. q == p) positions then positions else positions ++ p ∷ []

-- these positions with one more, if its route inherits
abbrev pub with_successor : Config → List ℕ → List Label → List Label → List ℕ → ℕ → List ℕ
with_successor config receiver group labels positions p =
    if inherits config receiver group labels p then with_position positions p else positions

-- these positions with those of an alert's routes that inherit
abbrev pub with_successors : Config → List ℕ → List Label → List ℕ → List Label → List ℕ
with_successors config receiver group positions labels =
    fold (with_successor config receiver group labels) positions (routes_of config.routes labels)

-- the positions of the routes that inherit a row of a receiver: those by which an alert of the row, firing or resolved, goes to a group
-- of this receiver with the row's group labels, each once
abbrev pub successors : Config → List ℕ → RowView → List ℕ
successors config receiver row =
    fold (with_successors config receiver row.group.labels) (fold (with_successors config receiver row.group.labels) [] row.firing)
    row.resolved

-- the row's own position alone where it is among these, and else all of these
abbrev pub own_or_all : ℕ → List ℕ → List ℕ
own_or_all own routes = if list_any (λ q. q == own) routes then own ∷ [] else routes

-- a row under another integration and route
abbrev pub moved : RowView → ℕ → ℕ → RowView
moved row integration route = record row { group = record { route = route; labels = row.group.labels }; integration = integration }

-- a row for each of these routes, if there is the integration
abbrev pub rows_at : RowView → Option ℕ → List ℕ → List RowView
rows_at row None routes = []
rows_at row (Some integration) routes = map (moved row integration) routes

-- carried: the rows that a log under the new configuration takes over for a row of one under the old: all that it had but the route and
-- the integration's position. A route takes the row over if its alerts go there under the new configuration. Where several do, the one at
-- the row's own position has it alone, since each of the others has a row of its own where the configuration is the same; where that
-- one doesn't, all have it: a notified alert isn't notified again, by whichever of them it comes. Where the positions of several
-- shifted, the one that is now at the row's own position has it alone, and one of the others may have none: there it can be notified again
abbrev pub carried : Config → Config → RowView → List RowView
carried old new row =
    let receiver = (route_of old row.group).receiver in
    rows_at row
    (moved_to (integrations_named receiver old.receivers) row.integration (integrations_named receiver new.receivers))
    (own_or_all row.group.route (successors new receiver row))

-- whether an alert of a row goes to the row's own group under a configuration, as in each row that a flush logs
abbrev pub is_led_to : Config → RowView → Bool
is_led_to config row = list_any (λ labels. list_any (same_name row.group) (names_for config labels)) (row.firing ++ row.resolved)

-- a row that is taken over has an integration of the new configuration and an alert that goes to its group there, and is else the row
-- that it represents
pub record IsTakenOver (new : Config) (row taken : RowView) : Type 0 where
  pub there : has_integration new taken ≡ true
  pub led : is_led_to new taken ≡ true
  pub labels : taken.group.labels ≡ row.group.labels
  pub time : taken.time ≡ row.time
  pub expiry : taken.expiry ≡ row.expiry
  pub firing : taken.firing ≡ row.firing
  pub resolved : taken.resolved ≡ row.resolved

-- each row that is taken over is so
abbrev pub CarriedRowsFit : Type 0
CarriedRowsFit = (old new : Config) (row : RowView) → All (IsTakenOver new row) (carried old new row)

-- where a row can be loaded under the old configuration, each row that is taken over for it can be loaded under the new one
abbrev pub CarriedRowsMayBeLoaded : Type 0
CarriedRowsMayBeLoaded =
    (old new : Config) (t : ℕ) (row : RowView) → may_load old t row ≡ true
    → All (λ taken. may_load new t taken ≡ true) (carried old new row)

-- a restart: under the same configuration a row is taken over as it is, and once, if it has an integration and an alert that goes to its
-- group
abbrev pub RestartsCarryRows : Type 0
RestartsCarryRows =
    (config : Config) (row : RowView) → has_integration config row ≡ true → is_led_to config row ≡ true
    → carried config config row ≡ row ∷ []
