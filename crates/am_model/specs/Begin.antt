-- Begin: a flush of the group that was due first (Alertmanager's aggrGroup.run and flush, with its stages of muting, times and DedupStage).
use Rattle.std.specs.Prelude.{ℕ, ◌+◌, max, Bool, true, false, not, ◌&&◌, nat_le, List, [], ◌∷◌, ◌++◌, map, filter, find, count_by, Option}
use Rattle.std.specs.Prelude.{Some, None, ◌==◌, if◌then◌else◌}
use Rattle.std.specs.Option.{option_map}
use Rattle.std.specs.Ordering.{ordering_then, nat_cmp}
use Rattle.std.specs.declared.cmp.Ordering.{Ordering}
use Rattle.am_alerts.specs.AlertData.{AlertData, alert_of, is_resolved}
use Rattle.am_alerts.specs.Labels.{same_label_set, label_set_cmp}
use Rattle.am_alerts.specs.declared.labels.Label.{Label}
use Rattle.am_mute.specs.Inhibit.{RuleData}
use Rattle.am_mute.specs.Mute.{is_muted}
use Rattle.am_nflog.specs.Members.{is_empty}
use Rattle.am_nflog.specs.Needed.{needed}
use Rattle.am_nflog.specs.declared.row.LogRow.{LogRow}
use Rattle.am_model.specs.declared.notice.TheConstants.{MIN_FLUSH_TIMEOUT, MAX_DEADLINE}
use Rattle.am_model.specs.declared.config.Config.{Config}
use Rattle.am_model.specs.declared.config.Integration.{Integration}
use Rattle.am_model.specs.declared.group.GroupName.{GroupName}
use Rattle.am_model.specs.declared.record.Reply.{Reply}
use Rattle.am_model.specs.declared.record.Reply.TheVariants.{NothingDue, Quiet}
use Rattle.am_model.specs.declared.views.RowView.{RowView}
use Rattle.am_model.specs.Configured.{rules_of, route_of, route_muted, integrations_of}
use Rattle.am_model.specs.Notice.{NoticeData}
use Rattle.am_model.specs.Records.{flush_reply}
use Rattle.am_model.specs.Lists.{without, unless, changed_where, in_order, least}
use Rattle.am_model.specs.State.{GroupState, NotifiedState, Stamped, FlushState, State, at_time, is_named, same_name, name_cmp, is_flushing}

-- the order in which begins take groups: by due time, then by name
abbrev pub due_cmp : GroupState → GroupState → Ordering
due_cmp g h = ordering_then (nat_cmp g.due h.due) (name_cmp g.name h.name)

-- whether a group can be taken at t: it is due, and no flush of it is open
abbrev pub may_begin : State → ℕ → GroupState → Bool
may_begin s t g = nat_le g.due t && not (is_flushing s.flushes g.name)

-- the group that a begin at t takes
abbrev pub taken : State → ℕ → Option GroupState
taken s t = least due_cmp (filter (may_begin s t) s.groups)

-- when the next group is due that has no open flush: the one that a begin at the last time of all takes
abbrev pub next_due : State → Option ℕ
next_due s = option_map (λ g. g.due) (taken s MAX_DEADLINE)

-- an alert as a flush at t copies it: without its end, unless it is resolved
abbrev pub copied : ℕ → AlertData → AlertData
copied t a = if is_resolved a t then a else alert_of a.labels a.starts None

-- a group's alerts as a flush at t copies them, without those that are muted under these rules
abbrev pub copy_under : List RuleData → State → ℕ → GroupState → List AlertData
copy_under rules s t g = without (λ a. is_muted a.labels t s.silences rules s.known) (map (λ m. copied t m.alert) g.members)

-- the same under the configuration's rules, and none where the group's route is muted: the copy of a flush at t
abbrev pub copy_of : Config → State → ℕ → GroupState → List AlertData
copy_of config s t g = unless (route_muted config g.name t) (copy_under (rules_of config) s t g)

-- the order of alerts by their label sets
abbrev pub alert_cmp : AlertData → AlertData → Ordering
alert_cmp a b = label_set_cmp a.labels b.labels

-- the alerts of the copy that fire, in the order of their label sets
abbrev pub firing_of : Config → State → ℕ → GroupState → List AlertData
firing_of config s t g = in_order alert_cmp (without (λ a. is_resolved a t) (copy_of config s t g))

-- the alerts of the copy that are resolved, in the order of their label sets
abbrev pub resolved_of : Config → State → ℕ → GroupState → List AlertData
resolved_of config s t g = in_order alert_cmp (filter (λ a. is_resolved a t) (copy_of config s t g))

-- the label sets of alerts
abbrev pub label_sets : List AlertData → List (List Label)
label_sets alerts = map (λ a. a.labels) alerts

-- whether a row is an integration's entry for a group
abbrev pub is_entry_of : GroupName → ℕ → RowView → Bool
is_entry_of name integration row = same_name name row.group && (integration == row.integration)

-- a row as the log keeps it under its key
abbrev pub log_row : RowView → LogRow (List Label)
log_row row = record { time = row.time; firing = row.firing; resolved = row.resolved; expiry = row.expiry }

-- an integration's entry for a group, past its expiry too
abbrev pub entry_of : List RowView → GroupName → ℕ → Option (LogRow (List Label))
entry_of rows name integration = option_map log_row (find (is_entry_of name integration) rows)

-- whether an integration needs an update about a group of which these label sets fire and those are resolved
abbrev pub needs : Config → State → ℕ → GroupName → List (List Label) → List (List Label) → ℕ × Integration → Bool
needs config s t name firing resolved i =
    needed same_label_set (entry_of s.rows name i.0) firing resolved i.1.send_resolved (route_of config name).repeat_interval t

-- the integrations of a group's receiver that need an update; none where nothing fires and nothing is resolved
abbrev pub notified_about : Config → State → ℕ → GroupName → List (List Label) → List (List Label) → List (ℕ × Integration)
notified_about config s t name firing resolved =
    if is_empty firing && is_empty resolved then [] else filter (needs config s t name firing resolved) (integrations_of config name)

-- the integrations that the flush of a group at t notifies
abbrev pub notified_of : Config → State → ℕ → GroupState → List (ℕ × Integration)
notified_of config s t g =
    notified_about config s t g.name (label_sets (firing_of config s t g)) (label_sets (resolved_of config s t g))

-- the resolved alerts that an integration is sent
abbrev pub sent : Integration → List AlertData → List AlertData
sent i resolved = if i.send_resolved then resolved else []

-- the deadline of a flush at t: a group interval later, but 10 seconds at least
abbrev pub deadline_of : Config → ℕ → GroupState → ℕ
deadline_of config t g = t + max (route_of config g.name).group_interval MIN_FLUSH_TIMEOUT

-- the notice for an integration that is notified
abbrev pub notice_for : Config → ℕ → State → ℕ → GroupState → ℕ × Integration → NoticeData
notice_for config id s t g i =
    record {
      board_id = id;
      ticket = s.next_number;
      deadline = deadline_of config t g;
      group = g.name;
      integration = i.0;
      firing = firing_of config s t g;
      resolved = sent i.1 (resolved_of config s t g);
    }

-- the number of a group's alerts that are resolved at t, muted ones too
abbrev pub count_resolved : ℕ → GroupState → ℕ
count_resolved t g = count_by (λ m. is_resolved m.alert t) g.members

-- the reply where a group is taken and these integrations are notified: a flush, or all is quiet
abbrev pub reply_notifying : Config → ℕ → State → ℕ → GroupState → List (ℕ × Integration) → Reply
reply_notifying config id s t g [] = Quiet g.name (count_resolved t g)
reply_notifying config id s t g (i ∷ is) =
    flush_reply s.next_number g.name (deadline_of config t g) (map (notice_for config id s t g) (i ∷ is))

-- the reply to a begin at t that takes this group
abbrev pub reply_taking : Config → ℕ → State → ℕ → Option GroupState → Reply
reply_taking config id s t None = NothingDue
reply_taking config id s t (Some g) = reply_notifying config id s t g (notified_of config s t g)

-- the reply to a begin at t
abbrev pub begun : Config → ℕ → State → ℕ → Reply
begun config id s t = reply_taking config id s t (taken s t)

-- a group that was taken at t: it is flushed, and due an interval later
abbrev pub begun_group : Config → ℕ → GroupState → GroupState
begun_group config t g = record g { due = t + (route_of config g.name).group_interval; flushed = true }

-- a group without the alerts that are resolved at t
abbrev pub without_resolved : ℕ → GroupState → GroupState
without_resolved t g = record g { members = without (λ m. is_resolved m.alert t) g.members }

-- an integration that was notified, with nothing to send where neither alerts fire nor resolved ones are sent
abbrev pub notified_state : Config → State → ℕ → GroupState → ℕ × Integration → NotifiedState
notified_state config s t g i =
    record {
      integration = i.0;
      nothing = is_empty (firing_of config s t g) && is_empty (sent i.1 (resolved_of config s t g));
      noted = false;
    }

-- the alerts of a group that are resolved at t, as they are in it, muted ones too
abbrev pub leaving_of : ℕ → GroupState → List Stamped
leaving_of t g =
    map (λ m. record { labels = m.alert.labels; stamp = m.stamp }) (filter (λ m. is_resolved m.alert t) g.members)

-- the flush of a group at t that notifies these integrations
abbrev pub flush_notifying : Config → State → ℕ → GroupState → List (ℕ × Integration) → FlushState
flush_notifying config s t g notified =
    record {
      number = s.next_number;
      group = g.name;
      notified = map (notified_state config s t g) notified;
      firing = label_sets (firing_of config s t g);
      resolved = label_sets (resolved_of config s t g);
      leaving = leaving_of t g;
    }

-- the state after a begin at t that takes a group and notifies these integrations: a flush is opened, or the resolved alerts leave
abbrev pub after_notifying : Config → State → ℕ → GroupState → List (ℕ × Integration) → State
after_notifying config s t g [] =
    record s {
      clock = t;
      groups = changed_where (is_named g.name) (λ h. without_resolved t (begun_group config t h)) s.groups;
    }
after_notifying config s t g (i ∷ is) =
    record s {
      clock = t;
      groups = changed_where (is_named g.name) (begun_group config t) s.groups;
      flushes = s.flushes ++ flush_notifying config s t g (i ∷ is) ∷ [];
      next_number = s.next_number + 1;
    }

-- the state after a begin at t that takes this group
abbrev pub after_taking : Config → State → ℕ → Option GroupState → State
after_taking config s t None = at_time s t
after_taking config s t (Some g) = after_notifying config s t g (notified_of config s t g)

-- the state after a begin at t
abbrev pub after_begin : Config → State → ℕ → State
after_begin config s t = after_taking config s t (taken s t)
