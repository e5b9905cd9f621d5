-- Rekey: which rows a log under a new configuration has for those of a log under an old one, as in Alertmanager, whose nflog finds a row by
-- the receiver's name, the integration's kind and index, the route's key and the group labels (stateKey).
use Rattle.std.specs.Prelude.{◌≡◌, ◌≤◌, ℕ, true, All, Bool, List, Option, Some, filter}
use Rattle.std.specs.List.{Contains}
use Rattle.std.specs.Str.{bytes_eq}
use Rattle.am_alerts.specs.RoutingTree.{route_at}
use Rattle.am_model.specs.declared.config.Config.{Config}
use Rattle.am_model.specs.declared.record.Record.{Record}
use Rattle.am_model.specs.declared.views.RowView.{RowView}
use Rattle.am_model.specs.Carry.{moved_to, rows_at}
use Rattle.am_model.specs.Configured.{route_of, integrations_named}
use Rattle.am_model.specs.Load.{has_integration, may_load}
use Rattle.am_model.specs.Replay.{replay}
use Rattle.am_model.specs.RouteKeys.{key_at, positions_with}
use Rattle.am_model.specs.State.{State, time}
use Rattle.am_model.specs.Views.{row_views}

-- two configurations: the one before a reload and the one after it
pub record Reload : Type 0 where
  pub old : Config
  pub new : Config

-- whether the route at a position has this receiver
abbrev pub has_receiver_at : Config → List ℕ → ℕ → Bool
has_receiver_at config receiver position = bytes_eq (route_at config.routes position).receiver receiver

-- the positions of the routes of this receiver that have a key
abbrev pub same_routes : Config → List ℕ → List ℕ → List ℕ
same_routes config receiver key = filter (has_receiver_at config receiver) (positions_with config.routes key)

-- where the integration of a row is among those of a receiver under the new configuration: the one of the same kind and index
abbrev pub moved_in : Reload → List ℕ → RowView → Option ℕ
moved_in reload receiver row =
    moved_to (integrations_named receiver reload.old.receivers) row.integration (integrations_named receiver reload.new.receivers)

-- rekeyed: the rows that a log under the new configuration has for a row of one under the old: all that it had but the route and the
-- integration's position. There is one for each route of the row's receiver that has the key of the row's route, at the integration of the
-- same kind and index. In Alertmanager such routes share one entry
abbrev pub rekeyed : Reload → RowView → List RowView
rekeyed reload row =
    let receiver = (route_of reload.old row.group).receiver in
    rows_at row (moved_in reload receiver row)
    (same_routes reload.new receiver (key_at reload.old.routes row.group.route))

-- a row that is found again has an integration of the new configuration, under a route of the same receiver and the same key: the one of
-- the same kind and index. Everything else is as in the row
pub record IsFoundAgain (reload : Reload) (row found : RowView) : Type 0 where
  pub there : has_integration reload.new found ≡ true
  pub receiver : (route_of reload.new found.group).receiver ≡ (route_of reload.old row.group).receiver
  pub integration : moved_in reload (route_of reload.old row.group).receiver row ≡ Some found.integration
  pub key : key_at reload.new.routes found.group.route ≡ key_at reload.old.routes row.group.route
  pub labels : found.group.labels ≡ row.group.labels
  pub time : found.time ≡ row.time
  pub expiry : found.expiry ≡ row.expiry
  pub firing : found.firing ≡ row.firing
  pub resolved : found.resolved ≡ row.resolved

-- each row that is found again is so
abbrev pub RekeyedRowsFit : Type 0
RekeyedRowsFit = (reload : Reload) (row : RowView) → All (IsFoundAgain reload row) (rekeyed reload row)

-- where a row can be loaded under the old configuration, each row that is found again for it can be loaded under the new one
abbrev pub RekeyedRowsMayBeLoaded : Type 0
RekeyedRowsMayBeLoaded =
    (reload : Reload) (t : ℕ) (row : RowView) → may_load reload.old t row ≡ true
    → All (λ found. may_load reload.new t found ≡ true) (rekeyed reload row)

-- and so may each that is found again for one of those that a board shows, at any state under the new configuration, by a call that hands
-- in the clock's time or a later one
abbrev pub RekeyedDispatcherChangesMayBeLoaded : Type 0
RekeyedDispatcherChangesMayBeLoaded =
    (reload : Reload) (history : List Record) (s : State) (now : ℕ) → (replay reload.old history).clock ≤ now
    → All (λ row. All (λ found. may_load reload.new (time s now) found ≡ true) (rekeyed reload row))
    (row_views (replay reload.old history))

-- under the same configuration a row that has an integration is found again as it is
abbrev pub RestartsFindRows : Type 0
RestartsFindRows =
    (config : Config) (row : RowView) → has_integration config row ≡ true
    → Contains (rekeyed (record { old = config; new = config }) row) row

-- and so is each row that a board shows
abbrev pub RestartsFindShownRows : Type 0
RestartsFindShownRows =
    (config : Config) (history : List Record)
    → All (λ row. Contains (rekeyed (record { old = config; new = config }) row) row) (row_views (replay config history))
