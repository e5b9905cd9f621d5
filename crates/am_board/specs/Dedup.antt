-- Dedup: why an integration is notified, by its row in the stored log, and whom a begin notifies for these reasons.
use Rattle.std.specs.Prelude.{◌≡◌, ℕ, ◌+◌, ◌^◌, ◌<◌, ◌&&◌, Bool, List, [], Option, Some, None, ⊤, filter, if◌then◌else◌, map}
use Rattle.am_alerts.specs.Labels.{same_label_set}
use Rattle.am_alerts.specs.declared.labels.Label.{Label}
use Rattle.am_nflog.specs.Members.{is_empty}
use Rattle.am_nflog.specs.Needed.{update_reason}
use Rattle.am_nflog.specs.declared.row.LogRow.{LogRow}
use Rattle.am_nflog.specs.declared.update.UpdateReason.{UpdateReason}
use Rattle.am_nflog.specs.declared.update.UpdateReason.TheVariants.{FirstNotice, NewAlert, AllResolved, NewlyResolved, Repeat}
use Rattle.am_nflog.specs.declared.update.UpdateReason.TheVariants.{NothingFiring}
use Rattle.am_nflog.specs.declared.update.UpdateReason.TheVariants.{NotYet}
use Rattle.am_model.specs.declared.config.Config.{Config}
use Rattle.am_model.specs.declared.config.Integration.{Integration}
use Rattle.am_model.specs.declared.group.GroupName.{GroupName}
use Rattle.am_model.specs.declared.reason.Reason.{Reason}
use Rattle.am_model.specs.declared.reason.Reason.TheVariants.{NothingLeft, RouteMuted}
use Rattle.am_model.specs.declared.views.RowView.{RowView}
use Rattle.am_model.specs.Begin.{entry_of}
use Rattle.am_model.specs.Configured.{route_of}
use Rattle.am_model.specs.State.{State}
use Rattle.am_model.specs.look_back.Reasons.{notifies, reason_of_update, reason_where}
use Rattle.am_board.specs.Beginning.{update_of}
use Rattle.am_board.specs.declared.dedup.Decided.{Decided}
use Rattle.am_board.specs.declared.flush.AlertSets.{AlertSets}

-- where no update is needed yet, the time from which on one is fits a number of 64 bits
abbrev pub EndsInTime : ℕ → UpdateReason → Type 0
EndsInTime repeat FirstNotice = ⊤
EndsInTime repeat NewAlert = ⊤
EndsInTime repeat AllResolved = ⊤
EndsInTime repeat NewlyResolved = ⊤
EndsInTime repeat Repeat = ⊤
EndsInTime repeat NothingFiring = ⊤
EndsInTime repeat (NotYet since) = since + repeat + 1 < 2 ^ 64

-- nothing fires and nothing is resolved
abbrev pub is_nothing : AlertSets → Bool
is_nothing sets = is_empty sets.firing && is_empty sets.resolved

-- the reason of all integrations for which none is notified: the route is muted until a time, or nothing is left
abbrev pub common_reason : Option ℕ → AlertSets → Option Reason
common_reason (Some until) sets = Some (RouteMuted until)
common_reason None sets = if is_nothing sets then Some NothingLeft else None

-- the reason by the row that is kept, if there is one; `NothingLeft` where nothing fires and nothing is resolved
abbrev pub reason_by_row : Option (LogRow (List Label)) → AlertSets → Bool → ℕ → ℕ → Reason
reason_by_row logged sets send_resolved repeat t =
    if is_nothing sets then NothingLeft
    else reason_of_update repeat (update_reason same_label_set logged sets.firing sets.resolved send_resolved repeat t)

-- the reason of an integration of a group about these label sets, where these are the rows of the log
abbrev pub reason_among : List RowView → GroupName → AlertSets → ℕ → ℕ → ℕ × Integration → Reason
reason_among rows name sets repeat t i = reason_by_row (entry_of rows name i.0) sets i.1.send_resolved repeat t

-- the same, unless the group's route is muted until a time
abbrev pub reason_for : Config → State → GroupName → Option ℕ → AlertSets → ℕ → ℕ × Integration → Reason
reason_for config s name until sets t i =
    reason_where until (reason_among s.rows name sets (route_of config name).repeat_interval t i)

-- those of these integrations are notified whose reason says so, and each has its reason, if that is wanted
pub record AreDecided (why : Bool) (reason : ℕ × Integration → Reason) (integrations : List (ℕ × Integration)) (d : Decided) : Type 0 where
  pub reasons : d.reasons.items ≡ (if why then map reason integrations else [])
  pub notified : d.notified.items ≡ map update_of (filter (λ i. notifies (reason i)) integrations)
