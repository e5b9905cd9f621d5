-- Insert: an alert goes to the known ones and to the groups of its routes (Alertmanager's dispatch: processAlert and aggrGroup.insert).
use Rattle.std.specs.Prelude.{ℕ, ◌+◌, Bool, false, not, ◌&&◌, nat_lt, min, List, [], length, map, fold, count_by, find, unwrap_or}
use Rattle.std.specs.Prelude.{if◌then◌else◌}
use Rattle.am_alerts.specs.AlertData.{AlertData}
use Rattle.am_alerts.specs.Labels.{same_label_set}
use Rattle.am_alerts.specs.Route.{group_labels_of}
use Rattle.am_alerts.specs.RoutingTree.{route_at, routes_of}
use Rattle.am_alerts.specs.declared.labels.Label.{Label}
use Rattle.am_model.specs.declared.config.Config.{Config}
use Rattle.am_model.specs.declared.group.GroupName.{GroupName}
use Rattle.am_model.specs.declared.record.Inserted.{Inserted}
use Rattle.am_model.specs.Configured.{route_of}
use Rattle.am_model.specs.Lists.{upsert}
use Rattle.am_model.specs.State.{MemberState, GroupState, State, is_named, has_group, same_name}

-- the name of a label set's group of the route at a position
abbrev pub name_in : Config → List Label → ℕ → GroupName
name_in config labels route = record { route = route; labels = group_labels_of (route_at config.routes route) labels }

-- the names of a label set's groups, one for each of its routes
abbrev pub names_for : Config → List Label → List GroupName
names_for config labels = map (name_in config labels) (routes_of config.routes labels)

-- whether two alerts have one label set
abbrev pub same_alert : AlertData → AlertData → Bool
same_alert a b = same_label_set a.labels b.labels

-- whether two members have one label set
abbrev pub same_member : MemberState → MemberState → Bool
same_member m n = same_alert m.alert n.alert

-- whether two groups have one name
abbrev pub same_group : GroupState → GroupState → Bool
same_group g h = same_name g.name h.name

-- the wait of a group before its first flush
abbrev pub wait_of : Config → GroupName → ℕ
wait_of config name = (route_of config name).group_wait

-- a group that is made at t: empty, and due when its wait is over
abbrev pub new_group : Config → ℕ → GroupName → GroupState
new_group config t name = record { name = name; due = t + wait_of config name; flushed = false; members = [] }

-- the group of this name, made at t if it is missing
abbrev pub group_or_new : Config → ℕ → List GroupState → GroupName → GroupState
group_or_new config t groups name = unwrap_or (find (is_named name) groups) (new_group config t name)

-- when a group is due that gets an alert at t: at t at the latest, if it wasn't flushed and its wait was over before t, counted from
-- the alert's start
abbrev pub due_with : Config → ℕ → AlertData → GroupState → ℕ
due_with config t a g = if not g.flushed && nat_lt (a.starts + wait_of config g.name) t then min g.due t else g.due

-- a group with a member in place of the one with its label set, or added
abbrev pub group_with : Config → ℕ → MemberState → GroupState → GroupState
group_with config t m g = record g { due = due_with config t m.alert g; members = upsert same_member m g.members }

-- the groups with a member put into the one of this name
abbrev pub put_into_group : Config → ℕ → MemberState → List GroupState → GroupName → List GroupState
put_into_group config t m groups name = upsert same_group (group_with config t m (group_or_new config t groups name)) groups

-- the groups with a member put into each group of its routes
abbrev pub groups_with : Config → ℕ → MemberState → List GroupState → List GroupState
groups_with config t m groups = fold (put_into_group config t m) groups (names_for config m.alert.labels)

-- the stamp of the next insert
abbrev pub next_stamp : State → ℕ
next_stamp s = s.inserts + 1

-- the reply to an insert: the stamp, to how many groups the alert goes, and how many of them are made
abbrev pub inserted : Config → State → AlertData → Inserted
inserted config s a =
    record {
      stamp = next_stamp s;
      groups = length (names_for config a.labels);
      made = count_by (λ name. not (has_group s.groups name)) (names_for config a.labels);
    }

-- the state after an insert at t
abbrev pub after_insert : Config → State → ℕ → AlertData → State
after_insert config s t a =
    record s {
      clock = t;
      inserts = next_stamp s;
      known = upsert same_alert a s.known;
      groups = groups_with config t (record { alert = a; stamp = next_stamp s }) s.groups;
    }
