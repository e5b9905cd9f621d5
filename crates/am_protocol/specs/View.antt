-- View: the JSON tokens of the answers that say what a board has, and what a begin would do.
use Rattle.std.specs.Prelude.{ℕ, List, [], ◌∷◌, ◌++◌, codes, Option, None, Some}
use Rattle.json.specs.Token.{Token, key}
use Rattle.am_alerts.specs.declared.labels.Label.{Label}
use Rattle.am_mute.specs.declared.mute.MuteCause.{MuteCause}
use Rattle.am_mute.specs.declared.mute.MuteCause.TheVariants.{Silenced, Inhibited}
use Rattle.am_model.specs.declared.config.Config.{Config}
use Rattle.am_model.specs.declared.group.GroupName.{GroupName}
use Rattle.am_model.specs.declared.preview.MutedAlert.{MutedAlert}
use Rattle.am_model.specs.declared.preview.Preview.{Preview}
use Rattle.am_model.specs.declared.reason.Reason.{Reason}
use Rattle.am_model.specs.declared.reason.Reason.TheVariants as reason
use Rattle.am_model.specs.declared.views.GroupView.{GroupView}
use Rattle.am_model.specs.declared.views.RowView.{RowView}
use Rattle.am_model.specs.declared.views.Summary.{Summary}
use Rattle.am_model.specs.Configured.{route_of}
use Rattle.am_model.specs.look_back.Reasons.{notifies}
use Rattle.am_protocol.specs.Answer.{text_member, number_member, flag_member, object, array, optional_number}
use Rattle.am_protocol.specs.Answer.{labels_tokens, group_tokens, alert_tokens, integration_members}
use Rattle.am_protocol.specs.Reply.{named}

-- an object with one member of this name, which is an array of these values
abbrev pub listed : {T : Type 0} → List ℕ → (T → List Token) → List T → List Token
listed name tokens values = object (key name ∷ array tokens values)

-- when the next group is due
abbrev pub due_tokens : Option ℕ → List Token
due_tokens due = named (codes "next_due") (key (codes "at") ∷ optional_number due)

-- how much there is
abbrev pub summary_tokens : Summary → List Token
summary_tokens s =
    named (codes "summary")
    (number_member (codes "calls") s.calls ++ number_member (codes "groups") s.groups ++ number_member (codes "alerts") s.alerts
    ++ number_member (codes "flushes") s.flushes ++ number_member (codes "entries") s.entries)

-- a row of the log
abbrev pub row_tokens : Config → RowView → List Token
row_tokens config row =
    object (key (codes "group") ∷ group_tokens config row.group ++ text_member (codes "receiver") (route_of config row.group).receiver
    ++ integration_members config row.group row.integration
    ++ number_member (codes "moment") row.time ++ number_member (codes "expiry") row.expiry
    ++ key (codes "firing") ∷ array labels_tokens row.firing ++ key (codes "resolved") ∷ array labels_tokens row.resolved)

-- a group with its alerts
abbrev pub group_view_tokens : Config → GroupView → List Token
group_view_tokens config g =
    object (key (codes "group") ∷ group_tokens config g.group ++ number_member (codes "due") g.due
    ++ flag_member (codes "flushed") g.flushed ++ key (codes "alerts") ∷ array alert_tokens g.alerts)

-- a silence mutes an alert
abbrev pub silenced_members : ℕ → ℕ → List Token
silenced_members id until =
    text_member (codes "cause") (codes "silenced") ++ number_member (codes "id") id ++ number_member (codes "until") until

-- the alert of these labels mutes one by a rule
abbrev pub inhibited_members : ℕ → List Label → List Token
inhibited_members rule by =
    text_member (codes "cause") (codes "inhibited") ++ number_member (codes "rule") rule ++ key (codes "by") ∷ labels_tokens by

-- why an alert is muted
abbrev pub cause_members : MuteCause → List Token
cause_members (Silenced id until) = silenced_members id until
cause_members (Inhibited rule by) = inhibited_members rule by

-- a muted alert
abbrev pub muted_tokens : MutedAlert → List Token
muted_tokens m = object (key (codes "labels") ∷ labels_tokens m.labels ++ cause_members m.cause)

-- a reason, in the words of `am-rehearse`
abbrev pub reason_word : Reason → List ℕ
reason_word reason.FirstNotice = codes "first notice"
reason_word reason.NewAlert = codes "new alert"
reason_word reason.AllResolved = codes "all resolved"
reason_word reason.NewlyResolved = codes "newly resolved"
reason_word reason.Repeat = codes "repeat"
reason_word reason.NothingLeft = codes "nothing left"
reason_word reason.NothingFiring = codes "nothing fires"
reason_word (reason.NotYet from) = codes "nothing new"
reason_word (reason.RouteMuted until) = codes "route muted"

-- from when on a begin would repeat it, or until when its route is muted
abbrev pub reason_time : Reason → List Token
reason_time reason.FirstNotice = []
reason_time reason.NewAlert = []
reason_time reason.AllResolved = []
reason_time reason.NewlyResolved = []
reason_time reason.Repeat = []
reason_time reason.NothingLeft = []
reason_time reason.NothingFiring = []
reason_time (reason.NotYet from) = number_member (codes "from") from
reason_time (reason.RouteMuted until) = number_member (codes "until") until

-- why an integration is notified or not
abbrev pub reason_tokens : Reason → List Token
reason_tokens r =
    object (flag_member (codes "notifies") (notifies r) ++ text_member (codes "reason") (reason_word r) ++ reason_time r)

-- the group that a begin would take then, and its muted alerts
abbrev pub taken_members : Config → ℕ → GroupName → List MutedAlert → List Token
taken_members config time group muted =
    number_member (codes "now") time ++ key (codes "group") ∷ group_tokens config group
    ++ text_member (codes "receiver") (route_of config group).receiver ++ key (codes "muted") ∷ array muted_tokens muted

-- what a begin would do with the group that it would take, and why each integration would be notified or not
abbrev pub preview_tokens : Config → Preview → List Token
preview_tokens config p =
    named (codes "outlook") (taken_members config p.time p.group p.muted ++ key (codes "reasons") ∷ array reason_tokens p.reasons)

-- what a begin would do
abbrev pub outlook_tokens : Config → Option Preview → List Token
outlook_tokens config None = named (codes "nothing_due") []
outlook_tokens config (Some p) = preview_tokens config p
