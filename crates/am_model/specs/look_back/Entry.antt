-- Entry: the log row of a group and an integration, computed from the end of a history, without a state.
use Rattle.std.specs.Prelude.{ℕ, Bool, false, not, ◌&&◌, ◌==◌, List, [], ◌∷◌, map, filter, Option, Some, None}
use Rattle.std.specs.Prelude.{if◌then◌else◌}
use Rattle.std.specs.List.{list_any, filter_map}
use Rattle.std.specs.Option.{option_or}
use Rattle.am_alerts.specs.AlertData.{AlertData, alert_of, is_resolved}
use Rattle.am_alerts.specs.declared.labels.Label.{Label}
use Rattle.am_mute.specs.Mute.{is_muted}
use Rattle.am_mute.specs.Silence.{SilenceData, silence_of}
use Rattle.am_retry.specs.declared.outcome.Outcome.{Outcome}
use Rattle.am_model.specs.declared.config.Config.{Config}
use Rattle.am_model.specs.declared.group.GroupName.{GroupName}
use Rattle.am_model.specs.declared.record.Call.{Call}
use Rattle.am_model.specs.declared.record.Call.TheVariants.{Insert, Silence, Begin, Finish, Maintain, RemoveEmptyGroups, Forget, Load, Note}
use Rattle.am_model.specs.declared.record.Record.{Record}
use Rattle.am_model.specs.declared.record.Reply.{Reply}
use Rattle.am_model.specs.declared.record.Reply.TheVariants.{Inserted, Silenced, NothingDue, Quiet, Flush}
use Rattle.am_model.specs.declared.record.Reply.TheVariants.{Finished, Maintained, EmptyGroupsRemoved, Forgotten, Loaded, Noted}
use Rattle.am_model.specs.declared.views.RowView.{RowView}
use Rattle.am_model.specs.Begin.{alert_cmp, label_sets, is_entry_of}
use Rattle.am_model.specs.Configured.{rules_of, route_muted, expiry_at}
use Rattle.am_model.specs.Insert.{same_alert}
use Rattle.am_model.specs.Lists.{without, unless, in_order}
use Rattle.am_model.specs.Load.{is_put}
use Rattle.am_model.specs.look_back.Past.{Past, time_at, is_flush_of, notices_in, begin_of, was_noted, succeeded}
use Rattle.am_model.specs.look_back.Presence.{presence}
use Rattle.am_model.specs.State.{MemberState}
use Rattle.am_model.specs.Maintenance.{same_silence, has_expired}

-- the latest first, and of the others those that aren't like it
abbrev pub latest_first : {X : Type 0} → (X → X → Bool) → Option X → List X → List X
latest_first like None xs = xs
latest_first like (Some x) xs = x ∷ without (like x) xs

-- the alert that a call inserts
abbrev pub alert_in : Call → Option AlertData
alert_in (Insert now alert) = Some alert
alert_in (Silence now id matchers start end) = None
alert_in (Begin now) = None
alert_in (Finish now number outcomes) = None
alert_in (Maintain now) = None
alert_in (RemoveEmptyGroups now) = None
alert_in (Forget now) = None
alert_in (Load now row) = None
alert_in (Note now number integration outcome) = None

-- the silence that a call sets
abbrev pub silence_in : Call → Option SilenceData
silence_in (Insert now alert) = None
silence_in (Silence now id matchers start end) = Some (silence_of id matchers start end)
silence_in (Begin now) = None
silence_in (Finish now number outcomes) = None
silence_in (Maintain now) = None
silence_in (RemoveEmptyGroups now) = None
silence_in (Forget now) = None
silence_in (Load now row) = None
silence_in (Note now number integration outcome) = None

-- the known alerts, and those that were forgotten: the last insert of each label set
abbrev pub known_in : Past → List AlertData
known_in [] = []
known_in (r ∷ past) = latest_first same_alert (alert_in r.call) (known_in past)

-- the silences, and those that were forgotten: the last of each id
abbrev pub silences_in : Past → List SilenceData
silences_in [] = []
silences_in (r ∷ past) = latest_first same_silence (silence_in r.call) (silences_in past)

-- the alerts that are present in a group
abbrev pub present_in : Config → GroupName → Past → List MemberState
present_in config name past = filter_map (λ a. presence config name a.labels past) (known_in past)

-- the alerts that are present in a group and not muted at t; none where the group's route is muted
abbrev pub unmuted_in : Config → GroupName → ℕ → Past → List AlertData
unmuted_in config name t past =
    unless (route_muted config name t)
    (without (λ a. is_muted a.labels t (silences_in past) (rules_of config) (known_in past))
    (map (λ m. m.alert) (present_in config name past)))

-- an alert without its end, as a notice lists one that fires
abbrev pub without_end : AlertData → AlertData
without_end a = alert_of a.labels a.starts None

-- the alerts that a begin of a group at t lists as firing, in the order of their label sets: those that are present, neither muted nor
-- resolved, without their ends
abbrev pub firing_alerts_in : Config → GroupName → ℕ → Past → List AlertData
firing_alerts_in config name t past =
    in_order alert_cmp (map without_end (without (λ a. is_resolved a t) (unmuted_in config name t past)))

-- and those that it lists as resolved, as they are
abbrev pub resolved_alerts_in : Config → GroupName → ℕ → Past → List AlertData
resolved_alerts_in config name t past = in_order alert_cmp (filter (λ a. is_resolved a t) (unmuted_in config name t past))

-- the label sets that a begin of a group at t lists as firing, in their order
abbrev pub firing_in : Config → GroupName → ℕ → Past → List (List Label)
firing_in config name t past = label_sets (firing_alerts_in config name t past)

-- and those that it lists as resolved
abbrev pub resolved_in : Config → GroupName → ℕ → Past → List (List Label)
resolved_in config name t past = label_sets (resolved_alerts_in config name t past)

-- the row that a success logs at t for an integration that the flush with this reply and this past notified
abbrev pub row_of_flush : Config → ℕ → ℕ → ℕ → Past → Reply → Option RowView
row_of_flush config t integration begun past (Inserted inserted) = None
row_of_flush config t integration begun past (Silenced silenced) = None
row_of_flush config t integration begun past NothingDue = None
row_of_flush config t integration begun past (Quiet group removed) = None
row_of_flush config t integration begun past (Flush group opened) =
    Some (record {
      group = group;
      integration = integration;
      time = t;
      expiry = expiry_at config group t;
      firing = firing_in config group begun past;
      resolved = resolved_in config group begun past;
    })
row_of_flush config t integration begun past (Finished finished) = None
row_of_flush config t integration begun past (Maintained maintained) = None
row_of_flush config t integration begun past (EmptyGroupsRemoved removed) = None
row_of_flush config t integration begun past (Forgotten forgotten) = None
row_of_flush config t integration begun past (Loaded loaded) = None
row_of_flush config t integration begun past Noted = None

-- the row that a success logs at t for an integration that the flush at the head notified
abbrev pub row_of_begin : Config → ℕ → ℕ → Past → Option RowView
row_of_begin config t integration [] = None
row_of_begin config t integration (r ∷ past) = row_of_flush config t integration (time_at (r ∷ past)) past r.reply

-- whether the flush at the head is of this group
abbrev pub begins_group : GroupName → Past → Bool
begins_group name [] = false
begins_group name (r ∷ past) = is_flush_of name r.reply

-- whether the flush at the head notified an integration that succeeded, where its finish has these outcomes and this past
abbrev pub notified_and_succeeded : ℕ → List (ℕ × Outcome) → Past → ℕ → Past → Bool
notified_and_succeeded number outcomes finish_past integration [] = false
notified_and_succeeded number outcomes finish_past integration (r ∷ past) =
    list_any (λ n. (n.integration == integration) && succeeded number outcomes finish_past n) (notices_in r.reply)

-- whether a finish or a note with this past logs an integration's success for a group: a finish of a flush of the group in which it was
-- asked and succeeded, unless it was noted, or its note
abbrev pub logs : GroupName → ℕ → Past → Call → Bool
logs name integration past (Insert now alert) = false
logs name integration past (Silence now id matchers start end) = false
logs name integration past (Begin now) = false
logs name integration past (Finish now number outcomes) =
    begins_group name (begin_of number past)
    && (notified_and_succeeded number outcomes past integration (begin_of number past) && not (was_noted number integration past))
logs name integration past (Maintain now) = false
logs name integration past (RemoveEmptyGroups now) = false
logs name integration past (Forget now) = false
logs name integration past (Load now row) = false
logs name integration past (Note now number i outcome) = begins_group name (begin_of number past) && (i == integration)

-- the past that begins with the begin of the flush that a finish or a note names
abbrev pub begin_named : Past → Call → Past
begin_named past (Insert now alert) = []
begin_named past (Silence now id matchers start end) = []
begin_named past (Begin now) = []
begin_named past (Finish now number outcomes) = begin_of number past
begin_named past (Maintain now) = []
begin_named past (RemoveEmptyGroups now) = []
begin_named past (Forget now) = []
begin_named past (Load now row) = []
begin_named past (Note now number integration outcome) = begin_of number past

-- the row that the latest record logs for a group and an integration, if it does
abbrev pub row_logged : Config → GroupName → ℕ → Record → Past → Option RowView
row_logged config name integration r past =
    if logs name integration past r.call
    then row_of_begin config (time_at (r ∷ past)) integration (begin_named past r.call)
    else None

-- the row that a call hands in
abbrev pub row_in : Call → Option RowView
row_in (Insert now alert) = None
row_in (Silence now id matchers start end) = None
row_in (Begin now) = None
row_in (Finish now number outcomes) = None
row_in (Maintain now) = None
row_in (RemoveEmptyGroups now) = None
row_in (Forget now) = None
row_in (Load now row) = Some row
row_in (Note now number integration outcome) = None

-- whether a reply is that the row that was handed in was put into the log
abbrev pub reports_put : Reply → Bool
reports_put (Inserted inserted) = false
reports_put (Silenced silenced) = false
reports_put NothingDue = false
reports_put (Quiet group removed) = false
reports_put (Flush group opened) = false
reports_put (Finished finished) = false
reports_put (Maintained maintained) = false
reports_put (EmptyGroupsRemoved removed) = false
reports_put (Forgotten forgotten) = false
reports_put (Loaded loaded) = is_put loaded
reports_put Noted = false

-- a row that was handed in, if it is of this group and integration and was put into the log
abbrev pub row_put : GroupName → ℕ → Reply → Option RowView → Option RowView
row_put name integration reply None = None
row_put name integration reply (Some row) = if reports_put reply && is_entry_of name integration row then Some row else None

-- the row of a group and an integration that the latest record loaded, as it was handed in, if it did
abbrev pub row_loaded : GroupName → ℕ → Record → Option RowView
row_loaded name integration r = row_put name integration r.reply (row_in r.call)

-- a row, unless its expiry is reached at t
abbrev pub unless_expired : ℕ → Option RowView → Option RowView
unless_expired t None = None
unless_expired t (Some row) = if has_expired t row then None else Some row

-- a row, unless a call at t is a maintenance that collects it
abbrev pub unless_collected : ℕ → Call → Option RowView → Option RowView
unless_collected t (Insert now alert) row = row
unless_collected t (Silence now id matchers start end) row = row
unless_collected t (Begin now) row = row
unless_collected t (Finish now number outcomes) row = row
unless_collected t (Maintain now) row = unless_expired t row
unless_collected t (RemoveEmptyGroups now) row = row
unless_collected t (Forget now) row = row
unless_collected t (Load now loaded) row = row
unless_collected t (Note now number integration outcome) row = row

-- entry: the row of the last record that logged a success of an integration for a group or loaded a row of it, unless a maintenance
-- since then came at or past its expiry
abbrev pub entry_in : Config → GroupName → ℕ → Past → Option RowView
entry_in config name integration [] = None
entry_in config name integration (r ∷ past) =
    option_or (row_logged config name integration r past)
    (option_or (row_loaded name integration r)
    (unless_collected (time_at (r ∷ past)) r.call (entry_in config name integration past)))
