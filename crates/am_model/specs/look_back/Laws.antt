-- Laws of looking back: what was done and why follows from a history alone, with any number of open flushes.
use Rattle.std.specs.Prelude.{◌≡◌, ℕ, ◌+◌, Bool, true, false, IsTrue, not, ◌&&◌, ◌||◌, ◌==◌, ◌⊎◌}
use Rattle.std.specs.Prelude.{max, All, List, [], ◌∷◌, map, filter, find, count_by, Option, Some, None, if◌then◌else◌}
use Rattle.std.specs.List.{list_any}
use Rattle.std.specs.Option.{option_map, option_or}
use Rattle.am_alerts.specs.AlertData.{AlertData, is_resolved}
use Rattle.am_alerts.specs.Labels.{same_label_set}
use Rattle.am_alerts.specs.declared.labels.Label.{Label}
use Rattle.am_nflog.specs.Members.{is_empty}
use Rattle.am_nflog.specs.Needed.{needed}
use Rattle.am_retry.specs.declared.outcome.Outcome.{Outcome}
use Rattle.am_model.specs.declared.notice.TheConstants.{MIN_FLUSH_TIMEOUT}
use Rattle.am_model.specs.declared.config.Config.{Config}
use Rattle.am_model.specs.declared.config.Integration.{Integration}
use Rattle.am_model.specs.declared.group.GroupName.{GroupName}
use Rattle.am_model.specs.declared.record.Call.{Call}
use Rattle.am_model.specs.declared.record.Call.TheVariants.{Insert, Silence, Begin, Finish, Maintain, RemoveEmptyGroups, Forget, Load, Note}
use Rattle.am_model.specs.declared.record.Record.{Record}
use Rattle.am_model.specs.declared.record.Reply.{Reply}
use Rattle.am_model.specs.declared.record.Reply.TheVariants.{Inserted, Silenced, NothingDue, Quiet, Flush}
use Rattle.am_model.specs.declared.record.Reply.TheVariants.{Finished, Maintained, EmptyGroupsRemoved, Forgotten, Loaded, Noted}
use Rattle.am_model.specs.declared.views.RowView.{RowView}
use Rattle.am_model.specs.Begin.{alert_cmp, is_entry_of, log_row}
use Rattle.am_model.specs.Configured.{route_of, integrations_of}
use Rattle.am_model.specs.Notice.{NoticeData, is_nothing}
use Rattle.am_model.specs.look_back.Entry.{begins_group, logs, present_in, firing_alerts_in, resolved_alerts_in, firing_in, resolved_in}
use Rattle.am_model.specs.look_back.Entry.{row_in, row_loaded, entry_in}
use Rattle.am_model.specs.Finish.{is_delivered}
use Rattle.am_model.specs.look_back.Interval.{found_empty, BeginsKeepTheInterval}
use Rattle.am_model.specs.Laws.{IsConsistent}
use Rattle.am_model.specs.Lists.{in_order}
use Rattle.am_model.specs.Load.{may_load, loaded_over}
use Rattle.am_model.specs.look_back.Past.{Past, AtEach, past_of, replay_past, time_at, is_flush, is_flush_of, is_finish, is_note, takes}
use Rattle.am_model.specs.look_back.Past.{notices_in, begin_of, has_begun, has_finished, was_noted}
use Rattle.am_model.specs.look_back.Presence.{goes_to, inserts, inserted_by, stamp_returned, presence}
use Rattle.am_model.specs.look_back.Reasons.{BeginsHaveReasons}
use Rattle.am_model.specs.Replay.{replay, IsLegal}
use Rattle.am_model.specs.State.{MemberState, members_in}
use Rattle.am_model.specs.Ticket.{outcome_of}
use Rattle.am_model.specs.Views.{row_views, group_views}

-- what every legal history has
abbrev pub EveryLegalHistory : (Config → List Record → Type 0) → Type 0
EveryLegalHistory P = (config : Config) (id : ℕ) (history : List Record) → IsLegal config id history → P config history

-- ---- presence and entries

-- the alert of a label set among those of a group
abbrev pub member_with : List Label → List MemberState → Option MemberState
member_with labels members = find (λ m. same_label_set labels m.alert.labels) members

-- an alert is in a group after a history exactly if looking back finds it there, with the value and the stamp of its last insert
abbrev pub AlertsAreFound : Config → List Record → Type 0
AlertsAreFound config history =
    (name : GroupName) (labels : List Label)
    → member_with labels (members_in (replay config history).groups name) ≡ presence config name labels (past_of history)

-- the alerts of a group, in the order of their label sets
abbrev pub alerts_in : Config → GroupName → Past → List AlertData
alerts_in config name past = in_order alert_cmp (map (λ m. m.alert) (present_in config name past))

-- each group that is shown after a history has the alerts that looking back finds
abbrev pub ShownAlertsAreFound : Config → List Record → Type 0
ShownAlertsAreFound config history =
    All (λ v. v.alerts ≡ alerts_in config v.group (past_of history)) (group_views (replay config history))

-- the log has a row for a group and an integration after a history exactly if looking back finds it, and it is that one
abbrev pub RowsAreFound : Config → List Record → Type 0
RowsAreFound config history =
    (name : GroupName) (integration : ℕ)
    → find (is_entry_of name integration) (replay config history).rows ≡ entry_in config name integration (past_of history)

-- each row that is shown after a history is the one that looking back finds for its group and integration
abbrev pub ShownRowsAreFound : Config → List Record → Type 0
ShownRowsAreFound config history =
    All (λ row. entry_in config row.group row.integration (past_of history) ≡ Some row) (row_views (replay config history))

-- ---- logged only after delivery

-- whether one of these notices is the integration's, and it had nothing to send or this outcome is Delivered
abbrev pub is_delivered_to : ℕ → Option Outcome → List NoticeData → Bool
is_delivered_to integration outcome notices =
    list_any (λ n. (n.integration == integration) && (is_nothing n || is_delivered outcome)) notices

-- whether the flush at the head is of this group, and asked an integration that had nothing to send or was delivered
abbrev pub is_delivered_in : GroupName → ℕ → Option Outcome → Past → Bool
is_delivered_in name integration outcome [] = false
is_delivered_in name integration outcome (r ∷ past) = is_flush_of name r.reply && is_delivered_to integration outcome (notices_in r.reply)

-- whether a finish or a note with this past reports that its flush's notice for an integration of a group was delivered, or had nothing
-- to send
abbrev pub reports_delivery : GroupName → ℕ → Past → Call → Bool
reports_delivery name integration past (Insert now alert) = false
reports_delivery name integration past (Silence now id matchers start end) = false
reports_delivery name integration past (Begin now) = false
reports_delivery name integration past (Finish now number outcomes) =
    is_delivered_in name integration (outcome_of outcomes integration) (begin_of number past)
reports_delivery name integration past (Maintain now) = false
reports_delivery name integration past (RemoveEmptyGroups now) = false
reports_delivery name integration past (Forget now) = false
reports_delivery name integration past (Load now row) = false
reports_delivery name integration past (Note now number i outcome) =
    (i == integration) && is_delivered_in name integration outcome (begin_of number past)

-- what a record logs was delivered: where it logs an integration's success for a group, it reports so of that flush's notice
abbrev pub LogsDelivered : Record → Past → Type 0
LogsDelivered r past =
    (name : GroupName) (integration : ℕ) → logs name integration past r.call ≡ true
    → reports_delivery name integration past r.call ≡ true

-- whether the last record that logged a row's integration for its group did so at the row's time, and reported that its notice was
-- delivered, or had nothing to send
abbrev pub was_delivered : RowView → Past → Bool
was_delivered row [] = false
was_delivered row (r ∷ past) =
    if logs row.group row.integration past r.call
    then (time_at (r ∷ past) == row.time) && reports_delivery row.group row.integration past r.call
    else was_delivered row past

-- the row of a group and an integration that was loaded last, as it was handed in, unless a success was logged there since
abbrev pub handed_in : GroupName → ℕ → Past → Option RowView
handed_in name integration [] = None
handed_in name integration (r ∷ past) =
    if logs name integration past r.call then None
    else option_or (row_loaded name integration r) (handed_in name integration past)

-- a claim about a row, unless it was handed in: then it is the row that was handed in
abbrev pub UnlessHandedIn : Option RowView → RowView → Type 0 → Type 0
UnlessHandedIn None row Claim = Claim
UnlessHandedIn (Some handed) row Claim = row ≡ handed

-- whatever a history logs was delivered, or had nothing to send
abbrev pub OnlyDeliveredIsLogged : Config → List Record → Type 0
OnlyDeliveredIsLogged config history = AtEach LogsDelivered (past_of history)

-- a row that comes into the log by a record was delivered, unless the record loaded it: any row that is there after it was there
-- before, or is of the record's time, and the record says that the notice of that flush was delivered
abbrev pub NewRowsAreDelivered : Config → Record → Past → Type 0
NewRowsAreDelivered config r past =
    (name : GroupName) (integration : ℕ) (row : RowView)
    → find (is_entry_of name integration) (replay_past config (r ∷ past)).rows ≡ Some row
    → (find (is_entry_of name integration) (replay_past config past).rows ≡ Some row)
    ⊎ UnlessHandedIn (row_loaded name integration r) row
    ((row.time ≡ time_at (r ∷ past)) × (reports_delivery name integration past r.call ≡ true))

-- at each record, the rows that come into the log were delivered, or had nothing to send, or were loaded
abbrev pub RowsComeByDelivery : Config → List Record → Type 0
RowsComeByDelivery config history = AtEach (NewRowsAreDelivered config) (past_of history)

-- each row of the log represents a notice that was reported delivered, or had nothing to send, at its time, unless it was handed in
abbrev pub RowsWereDelivered : Config → List Record → Type 0
RowsWereDelivered config history =
    All (λ row. UnlessHandedIn (handed_in row.group row.integration (past_of history)) row (IsTrue (was_delivered row (past_of history))))
    (replay config history).rows

-- ---- loaded only over what is earlier

-- a load is allowed, and returns what becomes of its row by the entry that follows from the past
pub record IsLoadedOverEarlier (config : Config) (r : Record) (past : Past) (row : RowView) : Type 0 where
  pub allowed : may_load config (time_at (r ∷ past)) row ≡ true
  pub returned : r.reply ≡ Loaded (loaded_over (time_at (r ∷ past)) row (entry_in config row.group row.integration past))

-- each load puts its row into the log, unless the row's expiry is before the record's time, or the log has an entry for its key that
-- is of the same time or a later one
abbrev pub LoadsPutLaterRows : Config → List Record → Type 0
LoadsPutLaterRows config history =
    AtEach (λ r past. (row : RowView) → row_in r.call ≡ Some row → IsLoadedOverEarlier config r past row) (past_of history)

-- ---- a refiring alert stays

-- the last insert of a label set after the begin of the flush of this number
abbrev pub insert_during : ℕ → List Label → Past → Option MemberState
insert_during number labels [] = None
insert_during number labels (r ∷ past) =
    if is_flush number r.reply then None
    else if inserts labels r.call then inserted_by (stamp_returned r.reply) r.call
    else insert_during number labels past

-- after a record that finishes a flush, each alert that was inserted into the group since the begin is in the group, as it was inserted
-- last
abbrev pub KeepsRefiring : Config → Record → Past → Type 0
KeepsRefiring config r past =
    (number : ℕ) → is_finish number r.call ≡ true
    → (name : GroupName) → begins_group name (begin_of number past) ≡ true
    → (labels : List Label) → goes_to config name labels ≡ true
    → (m : MemberState) → insert_during number labels past ≡ Some m
    → member_with labels (members_in (replay_past config (r ∷ past)).groups name) ≡ Some m

-- at each finish, an alert that was inserted into the group since the begin stays
abbrev pub RefiringAlertsStay : Config → List Record → Type 0
RefiringAlertsStay config history = AtEach (KeepsRefiring config) (past_of history)

-- ---- one finish per flush

-- the number of a flush
abbrev pub number_in : Reply → ℕ
number_in (Inserted inserted) = 0
number_in (Silenced silenced) = 0
number_in NothingDue = 0
number_in (Quiet group removed) = 0
number_in (Flush group opened) = opened.number
number_in (Finished finished) = 0
number_in (Maintained maintained) = 0
number_in (EmptyGroupsRemoved removed) = 0
number_in (Forgotten forgotten) = 0
number_in (Loaded loaded) = 0
number_in Noted = 0

-- whether a flush of this group is open: it has begun, and isn't finished
abbrev pub has_open : GroupName → Past → Bool
has_open name past = list_any (λ r. is_flush_of name r.reply && not (has_finished (number_in r.reply) past)) past

-- the time of the last begin of a group, unless a maintenance or a removal of empty groups since then found it without alerts
abbrev pub begun_at : Config → GroupName → Past → Option ℕ
begun_at config name [] = None
begun_at config name (r ∷ past) =
    if takes name r.reply then Some (time_at (r ∷ past))
    else if found_empty config name r past then None
    else begun_at config name past

-- a record begins only a flush that hasn't begun, finishes only one that has begun and isn't finished, notes only for such a one an
-- integration that it hasn't noted, and takes only a group that has no open flush
pub record IsOneFlushAtATime (r : Record) (past : Past) : Type 0 where
  pub first_begin : (number : ℕ) → is_flush number r.reply ≡ true → has_begun number past ≡ false
  pub begun_before : (number : ℕ) → is_finish number r.call ≡ true → has_begun number past ≡ true
  pub first_finish : (number : ℕ) → is_finish number r.call ≡ true → has_finished number past ≡ false
  pub note_open : (number integration : ℕ) → is_note number integration r.call ≡ true
      → (has_begun number past ≡ true) × (has_finished number past ≡ false)
  pub note_once : (number integration : ℕ) → is_note number integration r.call ≡ true → was_noted number integration past ≡ false
  pub none_open : (name : GroupName) → takes name r.reply ≡ true → has_open name past ≡ false

-- each number has one begin and at most one finish, and between them at most one note of each integration; a group is taken only while
-- none of its flushes is open
abbrev pub FlushesEndOnce : Config → List Record → Type 0
FlushesEndOnce config history = AtEach IsOneFlushAtATime (past_of history)

-- ---- a begin notifies exactly whom it should

-- whether an integration needs an update about these label sets of a group at t, by the entry that looking back finds
abbrev pub needs_after : Config → GroupName → ℕ → Past → List (List Label) → List (List Label) → ℕ × Integration → Bool
needs_after config name t past firing resolved i =
    needed same_label_set (option_map log_row (entry_in config name i.0 past)) firing resolved i.1.send_resolved
    (route_of config name).repeat_interval t

-- the integrations that need an update about these label sets; none where nothing fires and nothing is resolved
abbrev pub notified_about_after : Config → GroupName → ℕ → Past → List (List Label) → List (List Label) → List ℕ
notified_about_after config name t past firing resolved =
    if is_empty firing && is_empty resolved then []
    else map (λ i. i.0) (filter (needs_after config name t past firing resolved) (integrations_of config name))

-- the integrations that a begin of a group at t has to notify
abbrev pub notified_after : Config → GroupName → ℕ → Past → List ℕ
notified_after config name t past =
    notified_about_after config name t past (firing_in config name t past) (resolved_in config name t past)

-- a begin that takes a group notifies those that it has to notify, and no other
abbrev pub NotifiesWhomNeeded : Config → Record → Past → Type 0
NotifiesWhomNeeded config r past =
    (name : GroupName) → takes name r.reply ≡ true
    → map (λ n. n.integration) (notices_in r.reply) ≡ notified_after config name (time_at (r ∷ past)) past

-- each begin that takes a group notifies exactly those that it has to notify
abbrev pub BeginsNotifyExactlyWhomNeeded : Config → List Record → Type 0
BeginsNotifyExactlyWhomNeeded config history = AtEach (NotifiesWhomNeeded config) (past_of history)

-- ---- the reply to a begin

-- whether the integration at a position of a group's receiver is sent resolved alerts
abbrev pub wants_resolved : Config → GroupName → ℕ → Bool
wants_resolved config name integration = list_any (λ i. (integration == i.0) && i.1.send_resolved) (integrations_of config name)

-- a notice of a group's flush at t lists the alerts that looking back finds: those that fire, and the resolved ones where its
-- integration is sent them
pub record IsNoticeFound (config : Config) (number : ℕ) (name : GroupName) (until t : ℕ) (past : Past) (n : NoticeData) : Type 0 where
  pub ticket : n.ticket ≡ number
  pub group : n.group ≡ name
  pub deadline : n.deadline ≡ until
  pub firing : n.firing ≡ firing_alerts_in config name t past
  pub resolved : n.resolved ≡ (if wants_resolved config name n.integration then resolved_alerts_in config name t past else [])

-- a group's flush at t notifies somebody, has its deadline a group interval later, but ten seconds at least, and its notices list what
-- looking back finds
pub record IsFlushFound (config : Config) (number : ℕ) (name : GroupName) (until t : ℕ) (past : Past)
    (notices : List NoticeData) : Type 0 where
  pub notifies : is_empty notices ≡ false
  pub deadline : until ≡ t + max (route_of config name).group_interval MIN_FLUSH_TIMEOUT
  pub listed : All (IsNoticeFound config number name until t past) notices

-- the reply to a begin at t has what follows from the past: a quiet one the number of the group's resolved alerts, muted ones too
abbrev pub IsReplyFound : Config → ℕ → Past → Reply → Type 0
IsReplyFound config t past (Inserted inserted) = Unit {0}
IsReplyFound config t past (Silenced silenced) = Unit {0}
IsReplyFound config t past NothingDue = Unit {0}
IsReplyFound config t past (Quiet group removed) = removed ≡ count_by (λ m. is_resolved m.alert t) (present_in config group past)
IsReplyFound config t past (Flush group opened) = IsFlushFound config opened.number group opened.deadline t past opened.notices
IsReplyFound config t past (Finished finished) = Unit {0}
IsReplyFound config t past (Maintained maintained) = Unit {0}
IsReplyFound config t past (EmptyGroupsRemoved removed) = Unit {0}
IsReplyFound config t past (Forgotten forgotten) = Unit {0}
IsReplyFound config t past (Loaded loaded) = Unit {0}
IsReplyFound config t past Noted = Unit {0}

-- the reply to each begin has the group's alerts
abbrev pub NoticesListPresentAlerts : Config → List Record → Type 0
NoticesListPresentAlerts config history = AtEach (λ r past. IsReplyFound config (time_at (r ∷ past)) past r.reply) (past_of history)

-- ---- all of it, of one history

-- what follows from a history alone: its alerts and its rows, no two of which are alike; only what was delivered is logged, except for
-- what was handed in, which is put in only where it is later; and at each record a refiring alert stays, flushes end once, and a begin is
-- at least an interval after any other of its group, unless a maintenance between them found it without alerts, notifies those that it has
-- a reason to notify, and its reply has the group's alerts
pub record LooksBack (config : Config) (history : List Record) : Type 0 where
  pub consistent : IsConsistent (replay config history)
  pub alerts : AlertsAreFound config history
  pub shown_alerts : ShownAlertsAreFound config history
  pub rows : RowsAreFound config history
  pub shown_rows : ShownRowsAreFound config history
  pub only_delivered : OnlyDeliveredIsLogged config history
  pub new_rows : RowsComeByDelivery config history
  pub delivered : RowsWereDelivered config history
  pub loads : LoadsPutLaterRows config history
  pub refiring : RefiringAlertsStay config history
  pub once : FlushesEndOnce config history
  pub notified : BeginsNotifyExactlyWhomNeeded config history
  pub notices : NoticesListPresentAlerts config history
  pub interval : BeginsKeepTheInterval config history
  pub reasons : BeginsHaveReasons config history
