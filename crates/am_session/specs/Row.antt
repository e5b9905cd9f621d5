-- Row: a row that a line names, as a board has it.
use Rattle.std.specs.Prelude.{◌≡◌, ℕ, ◌+◌, ◌==◌, ◌&&◌, Bool, true, List}
use Rattle.std.specs.Prelude.{[], Option, Some, None, if◌then◌else◌, length, option_map, slice_get, String}
use Rattle.std.specs.HashMap.{HashMap, get_by_text}
use Rattle.std.specs.List.{position}
use Rattle.std.specs.Option.{option_or}
use Rattle.std.specs.Str.{bytes_eq}
use Rattle.am_alerts.specs.Route.{group_labels_of}
use Rattle.am_alerts.specs.RoutingTree.{RoutingTree, children_of, route_at}
use Rattle.am_alerts.specs.declared.labels.Label.{Label}
use Rattle.am_model.specs.declared.config.Config.{Config}
use Rattle.am_model.specs.declared.views.RowView.{RowView}
use Rattle.am_model.specs.Config.{kind_at}
use Rattle.am_model.specs.Configured.{integrations_named, route_of}
use Rattle.am_protocol.specs.declared.request.NamedRow.{NamedRow}

-- the position of the route of this name: the root is at position 0, those below it are at 1, 2, ..
abbrev pub route_named : RoutingTree → List ℕ → Option ℕ
route_named tree name =
    if bytes_eq tree.root.name name then Some 0
    else option_map (λ i. i + 1) (position (λ c. bytes_eq c.route.name name) (children_of tree))

-- a map has the position of the route of each name of a tree
abbrev pub HasPositions : {Y S : Type 0} → RoutingTree → HashMap (String Y) ℕ S → Type 0
HasPositions tree positions = (name : List ℕ) → get_by_text positions name ≡ route_named tree name

-- the first alert of a row
abbrev pub first_alert : NamedRow → Option (List Label)
first_alert named = option_or (slice_get named.firing.items 0) (slice_get named.resolved.items 0)

-- an empty label set, if the group of this alert at a route has no labels; None if it has some, and without an alert
abbrev pub no_labels : RoutingTree → ℕ → Option (List Label) → Option (List Label)
no_labels tree route None = None
no_labels tree route (Some alert) = if length (group_labels_of (route_at tree route) alert) == 0 then Some [] else None

-- the labels of a row's group at a route: those that the row names, or if it names none, those of its first alert's group, which has
-- to have none
abbrev pub group_labels : RoutingTree → ℕ → NamedRow → Option (List Label)
group_labels tree route named = option_or named.group.labels (no_labels tree route (first_alert named))

-- the row that is named, at this route and with these labels of its group
abbrev pub row_with : ℕ → List Label → NamedRow → RowView
row_with route labels named =
    record {
      group = record { route = route; labels = labels };
      integration = named.integration;
      time = named.time;
      expiry = named.expiry;
      firing = named.firing.items;
      resolved = named.resolved.items;
    }

-- the kind of the integration of a row; none where the configuration hasn't it
abbrev pub kind_of : Config → RowView → List ℕ
kind_of config row = kind_at (integrations_named (route_of config row.group).receiver config.receivers) row.integration

-- whether the receiver of a row is the one of this name, where one is named
abbrev pub has_named_receiver : Config → RowView → Option (List ℕ) → Bool
has_named_receiver config row None = true
has_named_receiver config row (Some name) = bytes_eq (route_of config row.group).receiver name

-- the row, if its receiver and the kind of its integration are as they are named
abbrev pub row_if_fits : Config → NamedRow → RowView → Option RowView
row_if_fits config named row =
    if has_named_receiver config row named.receiver && bytes_eq (kind_of config row) named.kind then Some row else None

-- the row with these labels of its group, if there are any
abbrev pub row_labelled : Config → NamedRow → ℕ → Option (List Label) → Option RowView
row_labelled config named route None = None
row_labelled config named route (Some labels) = row_if_fits config named (row_with route labels named)

-- the row under this route, if there is one
abbrev pub row_under : Config → NamedRow → Option ℕ → Option RowView
row_under config named None = None
row_under config named (Some route) = row_labelled config named route (group_labels config.routes route named)

-- the row that is named, as a board of this configuration has it. None where no route has its name, where its receiver is another
-- or its integration of another kind, and where its group is said to have no labels, and it has no alert or its first alert's group
-- has some
abbrev pub row_named : Config → NamedRow → Option RowView
row_named config named = row_under config named (route_named config.routes named.group.route)
