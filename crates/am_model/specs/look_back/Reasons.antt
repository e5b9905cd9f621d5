-- Reasons: why a begin notifies an integration of its group's receiver, or why not, computed from the history before it, without a state.
use Rattle.std.specs.Prelude.{◌≡◌, ◌≢◌, ◌↔◌, ℕ, ◌+◌, ◌<◌, ◌≤◌, Bool, true, false, ◌&&◌, ◌==◌}
use Rattle.std.specs.Prelude.{All, List, [], ◌∷◌, map, filter, Option, Some, None, if◌then◌else◌}
use Rattle.std.specs.List.{list_any}
use Rattle.std.specs.Option.{option_map}
use Rattle.am_alerts.specs.Labels.{same_label_set}
use Rattle.am_alerts.specs.declared.labels.Label.{Label}
use Rattle.am_nflog.specs.Members.{is_empty, is_member, is_subset}
use Rattle.am_nflog.specs.Needed.{update_reason}
use Rattle.am_nflog.specs.declared.update.UpdateReason.{UpdateReason}
use Rattle.am_nflog.specs.declared.update.UpdateReason.TheVariants as update
use Rattle.am_model.specs.Begin.{log_row}
use Rattle.am_model.specs.declared.config.Config.{Config}
use Rattle.am_model.specs.declared.config.Integration.{Integration}
use Rattle.am_model.specs.declared.group.GroupName.{GroupName}
use Rattle.am_model.specs.declared.reason.Reason.{Reason}
use Rattle.am_model.specs.declared.reason.Reason.TheVariants.{FirstNotice, NewAlert, AllResolved, NewlyResolved, Repeat, NothingLeft}
use Rattle.am_model.specs.declared.reason.Reason.TheVariants.{NothingFiring, NotYet, RouteMuted}
use Rattle.am_model.specs.declared.record.Record.{Record}
use Rattle.am_model.specs.declared.record.Reply.{Reply}
use Rattle.am_model.specs.declared.views.RowView.{RowView}
use Rattle.am_model.specs.Configured.{route_of, route_muted, integrations_of}
use Rattle.am_model.specs.look_back.Entry.{firing_in, resolved_in, entry_in}
use Rattle.am_model.specs.look_back.Past.{Past, AtEach, past_of, time_at, takes, notices_in}

-- whether an integration is asked for a reason
abbrev pub notifies : Reason → Bool
notifies FirstNotice = true
notifies NewAlert = true
notifies AllResolved = true
notifies NewlyResolved = true
notifies Repeat = true
notifies NothingLeft = false
notifies NothingFiring = false
notifies (NotYet from) = false
notifies (RouteMuted until) = false

-- the reason of an update, or of none, where this is the repeat interval
abbrev pub reason_of_update : ℕ → UpdateReason → Reason
reason_of_update repeat update.FirstNotice = FirstNotice
reason_of_update repeat update.NewAlert = NewAlert
reason_of_update repeat update.AllResolved = AllResolved
reason_of_update repeat update.NewlyResolved = NewlyResolved
reason_of_update repeat update.Repeat = Repeat
reason_of_update repeat update.NothingFiring = NothingFiring
reason_of_update repeat (update.NotYet since) = NotYet (since + repeat + 1)

-- the reason where these label sets fire and those are resolved at t (Alertmanager's DedupStage.needsUpdate)
abbrev pub reason_by : Option RowView → List (List Label) → List (List Label) → Bool → ℕ → ℕ → Reason
reason_by entry firing resolved send_resolved repeat t =
    reason_of_update repeat (update_reason same_label_set (option_map log_row entry) firing resolved send_resolved repeat t)

-- the same, except that the reason is `NothingLeft` where nothing fires and nothing is resolved
abbrev pub reason_by_entry : Option RowView → List (List Label) → List (List Label) → Bool → ℕ → ℕ → Reason
reason_by_entry entry firing resolved send_resolved repeat t =
    if is_empty firing && is_empty resolved then NothingLeft else reason_by entry firing resolved send_resolved repeat t

-- the reason, unless the group's route is muted until a time
abbrev pub reason_where : Option ℕ → Reason → Reason
reason_where None reason = reason
reason_where (Some until) reason = RouteMuted until

-- the reason of an integration of a group about these label sets, by the entry that looking back finds
abbrev pub reason_about : Config → GroupName → ℕ → Past → List (List Label) → List (List Label) → ℕ × Integration
    → Reason
reason_about config name t past firing resolved i =
    reason_by_entry (entry_in config name i.0 past) firing resolved i.1.send_resolved (route_of config name).repeat_interval t

-- why a begin of a group at t is to ask an integration of its receiver, or why not
abbrev pub reason_in : Config → GroupName → ℕ → Past → ℕ × Integration → Reason
reason_in config name t past i =
    reason_where (route_muted config name t)
    (reason_about config name t past (firing_in config name t past) (resolved_in config name t past) i)

-- some label set is among the first and not among the second
abbrev pub HasMore : List (List Label) → List (List Label) → Type 0
HasMore xs ys = (labels : List Label) × (is_member same_label_set labels xs ≡ true) × (is_member same_label_set labels ys ≡ false)

-- a row has as firing all that fires
abbrev pub HasAllFiring : RowView → List (List Label) → Type 0
HasAllFiring row firing = is_subset same_label_set firing row.firing ≡ true

-- and as resolved, where resolved alerts are sent, all that is resolved
abbrev pub HasAllResolved : RowView → List (List Label) → Bool → Type 0
HasAllResolved row resolved send_resolved = send_resolved ≡ true → is_subset same_label_set resolved row.resolved ≡ true

-- what a reason says of the entry, of the label sets that fire and those that are resolved, and of the time, where no route is muted:
-- exactly one reason applies
abbrev pub Says : Reason → Option RowView → List (List Label) → List (List Label) → Bool → ℕ → ℕ → Type 0
Says FirstNotice entry firing resolved send_resolved repeat t = (entry ≡ None) × (firing ≢ [])
Says NewAlert entry firing resolved send_resolved repeat t = (row : RowView) × (entry ≡ Some row) × HasMore firing row.firing
Says AllResolved entry firing resolved send_resolved repeat t =
    (row : RowView) × (entry ≡ Some row) × (firing ≡ []) × (resolved ≢ []) × (row.firing ≢ [])
Says NewlyResolved entry firing resolved send_resolved repeat t =
    (row : RowView) × (entry ≡ Some row) × (firing ≢ []) × HasAllFiring row firing × (send_resolved ≡ true)
    × HasMore resolved row.resolved
Says Repeat entry firing resolved send_resolved repeat t =
    (row : RowView) × (entry ≡ Some row) × (firing ≢ []) × HasAllFiring row firing × HasAllResolved row resolved send_resolved
    × (row.time + repeat < t)
Says NothingLeft entry firing resolved send_resolved repeat t = (firing ≡ []) × (resolved ≡ [])
Says NothingFiring entry firing resolved send_resolved repeat t =
    (firing ≡ []) × (resolved ≢ []) × ((row : RowView) → entry ≡ Some row → row.firing ≡ [])
Says (NotYet from) entry firing resolved send_resolved repeat t =
    (row : RowView) × (entry ≡ Some row) × (firing ≢ []) × HasAllFiring row firing × HasAllResolved row resolved send_resolved
    × (from ≡ row.time + repeat + 1) × (t < from)
Says (RouteMuted until) entry firing resolved send_resolved repeat t = ⊥

-- the same where the group's route can be muted until a time: then that reason alone applies
abbrev pub SaysWhere : Option ℕ → Reason → Option RowView → List (List Label) → List (List Label) → Bool → ℕ → ℕ
    → Type 0
SaysWhere None reason entry firing resolved send_resolved repeat t = Says reason entry firing resolved send_resolved repeat t
SaysWhere (Some until) reason entry firing resolved send_resolved repeat t = reason ≡ RouteMuted until

-- a reason applies to an integration of a group at t, by what follows from the past
abbrev pub ReasonApplies : Reason → Config → GroupName → ℕ → Past → ℕ × Integration → Type 0
ReasonApplies reason config name t past i =
    SaysWhere (route_muted config name t) reason (entry_in config name i.0 past) (firing_in config name t past)
    (resolved_in config name t past) i.1.send_resolved (route_of config name).repeat_interval t

-- whether a reply has a notice for an integration
abbrev pub is_notified_in : ℕ → Reply → Bool
is_notified_in integration reply = list_any (λ n. n.integration == integration) (notices_in reply)

-- a record that takes a group notifies each integration of its receiver exactly if there is a reason to notify it, in their order, and no
-- other
pub record NotifiesForReasons (config : Config) (r : Record) (past : Past) : Type 0 where
  pub each : (name : GroupName) → takes name r.reply ≡ true
      → All (λ i. is_notified_in i.0 r.reply ≡ notifies (reason_in config name (time_at (r ∷ past)) past i)) (integrations_of config name)
  pub only : (name : GroupName) → takes name r.reply ≡ true
      → map (λ n. n.integration) (notices_in r.reply)
      ≡ map (λ i. i.0) (filter (λ i. notifies (reason_in config name (time_at (r ∷ past)) past i)) (integrations_of config name))

-- each begin of a history notifies those that it has a reason to notify, and no other
abbrev pub BeginsHaveReasons : Config → List Record → Type 0
BeginsHaveReasons config history = AtEach (NotifiesForReasons config) (past_of history)

-- a reason is the one of an integration exactly where what it says is so
abbrev pub ReasonsAreSo : Type 0
ReasonsAreSo =
    (config : Config) (name : GroupName) (t : ℕ) (past : Past) (i : ℕ × Integration) (reason : Reason)
    → ReasonApplies reason config name t past i ↔ (reason_in config name t past i ≡ reason)

-- where a notice isn't repeated yet, it is from the time that the reason names on, if nothing else changes, and not before
abbrev pub NotYetEnds : Type 0
NotYetEnds =
    (entry : Option RowView) (firing resolved : List (List Label)) (send_resolved : Bool) (repeat t from later : ℕ)
    → reason_by entry firing resolved send_resolved repeat t ≡ NotYet from
    → (t < from)
    × (from ≤ later → reason_by entry firing resolved send_resolved repeat later ≡ Repeat)
    × (later < from → reason_by entry firing resolved send_resolved repeat later ≡ NotYet from)
