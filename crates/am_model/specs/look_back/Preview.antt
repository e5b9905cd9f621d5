-- Preview: what a begin would do with the group that it takes. The group and what mutes its alerts are from the state; the reasons are from
-- the history, and equal those by the state.
use Rattle.std.specs.Prelude.{◌≡◌, ℕ, List, map, find, Option}
use Rattle.std.specs.List.{filter_map}
use Rattle.std.specs.Option.{option_map}
use Rattle.am_mute.specs.Mute.{mute_cause_of}
use Rattle.am_model.specs.declared.config.Config.{Config}
use Rattle.am_model.specs.declared.config.Integration.{Integration}
use Rattle.am_model.specs.declared.preview.MutedAlert.{MutedAlert}
use Rattle.am_model.specs.declared.preview.Preview.{Preview}
use Rattle.am_model.specs.declared.reason.Reason.{Reason}
use Rattle.am_model.specs.declared.record.Record.{Record}
use Rattle.am_model.specs.Begin.{firing_of, resolved_of, label_sets, is_entry_of, taken}
use Rattle.am_model.specs.Configured.{rules_of, route_of, route_muted, integrations_of}
use Rattle.am_model.specs.look_back.Past.{past_of}
use Rattle.am_model.specs.look_back.Reasons.{reason_by_entry, reason_where, reason_in}
use Rattle.am_model.specs.Replay.{replay, IsLegal}
use Rattle.am_model.specs.State.{MemberState, GroupState, State, time}

-- an alert of a group with what mutes it at t, if it is muted
abbrev pub muted_alert : Config → State → ℕ → MemberState → Option MutedAlert
muted_alert config s t m =
    option_map (λ cause. record { labels = m.alert.labels; cause = cause })
    (mute_cause_of m.alert.labels t s.silences (rules_of config) s.known)

-- the alerts of a group that are muted at t
abbrev pub muted_of : Config → State → ℕ → GroupState → List MutedAlert
muted_of config s t g = filter_map (muted_alert config s t) g.members

-- why an integration of a group is notified at t, or why not, by the state
abbrev pub reason_of : Config → State → ℕ → GroupState → ℕ × Integration → Reason
reason_of config s t g i =
    reason_where (route_muted config g.name t)
    (reason_by_entry (find (is_entry_of g.name i.0) s.rows) (label_sets (firing_of config s t g)) (label_sets (resolved_of config s t g))
    i.1.send_resolved (route_of config g.name).repeat_interval t)

-- what a begin at t that takes a group is to do with it, where these are the reasons of integrations
abbrev pub preview_on : Config → State → ℕ → (GroupState → ℕ × Integration → Reason) → GroupState → Preview
preview_on config s t reason g =
    record { time = t; group = g.name; muted = muted_of config s t g; reasons = map (reason g) (integrations_of config g.name) }

-- what a begin at t is to do at a state
abbrev pub preview_by : Config → State → ℕ → (GroupState → ℕ × Integration → Reason) → Option Preview
preview_by config s t reason = option_map (preview_on config s t reason) (taken s t)

-- the same by the state alone
abbrev pub preview_at : Config → State → ℕ → Option Preview
preview_at config s t = preview_by config s t (reason_of config s t)

-- preview: what a begin at `now` after a history is to do, with the reasons that looking back finds
abbrev pub preview : Config → List Record → ℕ → Option Preview
preview config history now =
    let s = replay config history in
    let t = time s now in
    preview_by config s t (λ g. reason_in config g.name t (past_of history))

-- after each legal history the state gives the reasons that looking back finds
abbrev pub PreviewsAreFound : Type 0
PreviewsAreFound =
    (config : Config) (id : ℕ) (history : List Record) (now : ℕ)
    → IsLegal config id history
    → preview_at config (replay config history) (time (replay config history) now) ≡ preview config history now
