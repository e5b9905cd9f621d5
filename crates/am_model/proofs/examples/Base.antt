-- The base configuration of the worked rows, with short words for their alerts, calls and replies.
use Rattle.std.proofs.Common.{ℕ, Bool, true, false, Some, None, List, [], ◌∷◌, map}
use Rattle.std.specs.Prelude.{codes}
use Rattle.am_alerts.specs.AlertData.{AlertData, alert_of}
use Rattle.am_alerts.specs.RoutingTree.{tree_of}
use Rattle.am_alerts.specs.declared.labels.Label.{Label}
use Rattle.am_alerts.specs.declared.matcher.Operator.TheVariants.{Equal}
use Rattle.am_alerts.specs.declared.route.Route.{Route}
use Rattle.am_alerts.specs.declared.route.Child.{Child}
use Rattle.am_alerts.specs.declared.route.GroupBy.TheVariants.{Names}
use Rattle.am_retry.specs.declared.outcome.Outcome.{Outcome}
use Rattle.am_retry.specs.declared.outcome.Outcome.TheVariants.{Delivered}
use Rattle.am_model.specs.declared.config.Config.{Config}
use Rattle.am_model.specs.declared.config.Integration.{Integration}
use Rattle.am_model.specs.declared.group.GroupName.{GroupName}
use Rattle.am_model.specs.declared.record.Loaded.{Loaded}
use Rattle.am_model.specs.declared.record.Record.{Record}
use Rattle.am_model.specs.declared.record.Call.TheVariants as call
use Rattle.am_model.specs.declared.record.Reply.TheVariants as reply
use Rattle.am_model.specs.declared.views.RowView.{RowView}
use Rattle.am_model.specs.Notice.{NoticeData}
use Rattle.am_model.specs.Records.{entry, flush_reply}
use Rattle.am_model.specs.State.{State}

-- a route to the team by alert name, with 30 seconds, this interval and 4 hours
abbrev pub route_every : ℕ → List ℕ → Route
route_every interval name =
    record {
      name = name;
      receiver = codes "team";
      group_by = Names (codes "alertname" ∷ []);
      group_wait = 30_000;
      group_interval = interval;
      repeat_interval = 14_400_000;
    }

-- the same with 5 minutes
abbrev pub route_named : List ℕ → Route
route_named = route_every 300_000

-- a configuration with these children and integrations, and this retention
abbrev pub configured : List Child → List Integration → ℕ → Config
configured children integrations retention =
    record {
      routes = tree_of (route_named (codes "root")) children;
      receivers = record { name = codes "team"; integrations = integrations } ∷ [];
      rules = [];
      retention = retention;
      limits = record { alerts = 65_536; groups = 4_096; silences = 1_024; flushes = 64; history = 1_048_576 };
    }

abbrev pub integration : List ℕ → Bool → Integration
integration kind send_resolved = record { kind = kind; send_resolved = send_resolved }

-- the base configuration: 120 hours, and `hook/0`, which is sent resolved alerts
abbrev pub base : Config
base = configured [] (integration (codes "hook") true ∷ []) 432_000_000

-- the same with `mail/1`
abbrev pub with_mail : Config
with_mail = configured [] (integration (codes "hook") true ∷ integration (codes "mail") true ∷ []) 432_000_000

-- the same without resolved alerts
abbrev pub firing_only : Config
firing_only = configured [] (integration (codes "hook") false ∷ []) 432_000_000

-- the same with a retention of an hour
abbrev pub for_an_hour : Config
for_an_hour = configured [] (integration (codes "hook") true ∷ []) 3_600_000

abbrev pub label : List ℕ → List ℕ → Label
label name value = record { name = name; value = value }

-- the label set of this alert name alone
abbrev pub named : List ℕ → List Label
named name = label (codes "alertname") name ∷ []

-- the label set of this alert name and this instance
abbrev pub instance : List ℕ → List ℕ → List Label
instance name inst = label (codes "alertname") name ∷ label (codes "inst") inst ∷ []

abbrev pub fires : List Label → ℕ → AlertData
fires labels starts = alert_of labels starts None

abbrev pub ended : List Label → ℕ → ℕ → AlertData
ended labels starts ends = alert_of labels starts (Some ends)

-- the group of the root with this alert name
abbrev pub group : List ℕ → GroupName
group name = record { route = 0; labels = named name }

-- the records of pass 0
abbrev pub insert : ℕ → AlertData → ℕ → ℕ → ℕ → Record
insert now alert stamp groups made =
    entry 0 (call.Insert now alert) (reply.Inserted (record { stamp = stamp; groups = groups; made = made }))

abbrev pub nothing_due : ℕ → Record
nothing_due now = entry 0 (call.Begin now) reply.NothingDue

abbrev pub quiet : ℕ → GroupName → ℕ → Record
quiet now name removed = entry 0 (call.Begin now) (reply.Quiet name removed)

-- the notice of an integration for a flush of a group, by the desk 7
abbrev pub notice : ℕ → ℕ → GroupName → ℕ → List AlertData → List AlertData → NoticeData
notice ticket deadline name integration firing resolved =
    record {
      board_id = 7;
      ticket = ticket;
      deadline = deadline;
      group = name;
      integration = integration;
      firing = firing;
      resolved = resolved;
    }

abbrev pub flush : ℕ → ℕ → GroupName → ℕ → List NoticeData → Record
flush now number name deadline notices = entry 0 (call.Begin now) (flush_reply number name deadline notices)

-- a flush with the notice of `hook/0` alone
abbrev pub flush_hook : ℕ → ℕ → GroupName → ℕ → List AlertData → List AlertData → Record
flush_hook now number name deadline firing resolved =
    flush now number name deadline (notice number deadline name 0 firing resolved ∷ [])

abbrev pub finish : ℕ → ℕ → List (ℕ × Outcome) → ℕ → ℕ → Record
finish now number outcomes logged removed =
    entry 0 (call.Finish now number outcomes) (reply.Finished (record { logged = logged; removed = removed }))

abbrev pub maintain : ℕ → ℕ → ℕ → Record
maintain now groups entries =
    entry 0 (call.Maintain now) (reply.Maintained (record { groups = groups; entries = entries }))

abbrev pub remove_empty_groups : ℕ → ℕ → Record
remove_empty_groups now groups = entry 0 (call.RemoveEmptyGroups now) (reply.EmptyGroupsRemoved (record { groups = groups }))

abbrev pub forget : ℕ → ℕ → ℕ → Record
forget now alerts silences =
    entry 0 (call.Forget now) (reply.Forgotten (record { alerts = alerts; silences = silences }))

abbrev pub load : ℕ → RowView → Loaded → Record
load now row loaded = entry 0 (call.Load now row) (reply.Loaded loaded)

-- a log row
abbrev pub row : GroupName → ℕ → ℕ → ℕ → List (List Label) → List (List Label) → RowView
row name integration time expiry firing resolved =
    record {
      group = name;
      integration = integration;
      time = time;
      expiry = expiry;
      firing = firing;
      resolved = resolved;
    }

-- when the groups of a state are due
abbrev pub dues : State → List ℕ
dues s = map (λ g. g.due) s.groups

-- the alerts of the groups of a state
abbrev pub alerts : State → List (List AlertData)
alerts s = map (λ g. map (λ m. m.alert) g.members) s.groups

-- the group of alert name A
abbrev pub group_a : GroupName
group_a = group (codes "A")

-- the alert A, from 0 on
abbrev pub a : AlertData
a = fires (named (codes "A")) 0

-- the records of the first notice
abbrev pub first_notice : List Record
first_notice =
    insert 0 a 1 1 1
    ∷ nothing_due 29_999
    ∷ flush_hook 30_000 1 group_a 330_000 (a ∷ []) []
    ∷ finish 30_000 1 ((0, Delivered) ∷ []) 1 0
    ∷ []

-- a child with one matcher
abbrev pub child : List ℕ → List ℕ → List ℕ → Bool → Child
child name matched value continues =
    record {
      route = route_named name;
      matchers = record { name = matched; op = Equal; value = value } ∷ [];
      continues = continues;
    }

-- the children `db` (team = db, continue), `crit` (severity = critical) and `db2` (team = db)
abbrev pub with_children : Config
with_children =
    configured
    (child (codes "db") (codes "team") (codes "db") true
    ∷ child (codes "crit") (codes "severity") (codes "critical") false
    ∷ child (codes "db2") (codes "team") (codes "db") false
    ∷ [])
    (integration (codes "hook") true ∷ [])
    432_000_000

-- an alert for `db` and `crit`
abbrev pub critical : AlertData
critical =
    fires (label (codes "alertname") (codes "A") ∷ label (codes "severity") (codes "critical") ∷ label (codes "team") (codes "db") ∷ []) 0
