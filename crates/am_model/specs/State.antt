-- State: what a dispatcher of one thread has, as plain lists in the order of arrival. It has no board's id.
use Rattle.std.specs.Prelude.{ℕ, Bool, ◌&&◌, ◌==◌, min, max, List, [], find, Option, unwrap_or}
use Rattle.std.specs.List.{list_any}
use Rattle.std.specs.Option.{option_map}
use Rattle.std.specs.Ordering.{ordering_then, nat_cmp}
use Rattle.std.specs.declared.cmp.Ordering.{Ordering}
use Rattle.am_alerts.specs.AlertData.{AlertData}
use Rattle.am_alerts.specs.Labels.{same_label_set, label_set_cmp}
use Rattle.am_alerts.specs.declared.labels.Label.{Label}
use Rattle.am_alerts.specs.declared.limits.TheConstants.{MAX_TIME}
use Rattle.am_mute.specs.Silence.{SilenceData}
use Rattle.am_model.specs.declared.group.GroupName.{GroupName}
use Rattle.am_model.specs.declared.views.RowView.{RowView}

-- an alert of a group, with the stamp of its insert
pub record MemberState : Type 0 where
  pub alert : AlertData
  pub stamp : ℕ

-- an aggregation group (Alertmanager's aggrGroup): when it is due, whether it was flushed since it was made, and its alerts
pub record GroupState : Type 0 where
  pub name : GroupName
  pub due : ℕ
  pub flushed : Bool
  pub members : List MemberState

-- an integration of a flush: whether it has nothing to send, and whether its success was noted
pub record NotifiedState : Type 0 where
  pub integration : ℕ
  pub nothing : Bool
  pub noted : Bool

-- a label set with the stamp of an insert
pub record Stamped : Type 0 where
  pub labels : List Label
  pub stamp : ℕ

-- an open flush: whom it notified, the label sets that fired and those that were resolved in it, and the alerts of the group that were
-- resolved at its begin
pub record FlushState : Type 0 where
  pub number : ℕ
  pub group : GroupName
  pub notified : List NotifiedState
  pub firing : List (List Label)
  pub resolved : List (List Label)
  pub leaving : List Stamped

-- state: the clock, the number of inserts, the known alerts, the groups, the silences, the rows of the log, the open flushes and the
-- next flush's number
pub record State : Type 0 where
  pub clock : ℕ
  pub inserts : ℕ
  pub known : List AlertData
  pub groups : List GroupState
  pub silences : List SilenceData
  pub rows : List RowView
  pub flushes : List FlushState
  pub next_number : ℕ

-- the state at the opening
abbrev pub opening_state : State
opening_state =
    record { clock = 0; inserts = 0; known = []; groups = []; silences = []; rows = []; flushes = []; next_number = 1 }

-- time: the call's own, but none after the greatest and none before the clock
abbrev pub time : State → ℕ → ℕ
time s now = max s.clock (min now MAX_TIME)

-- the state with the clock at t
abbrev pub at_time : State → ℕ → State
at_time s t = record s { clock = t }

-- whether two names are of one group
abbrev pub same_name : GroupName → GroupName → Bool
same_name a b = (a.route == b.route) && same_label_set a.labels b.labels

-- the order of groups' names: by the route's position, then by the group labels
abbrev pub name_cmp : GroupName → GroupName → Ordering
name_cmp a b = ordering_then (nat_cmp a.route b.route) (label_set_cmp a.labels b.labels)

-- whether a group has this name
abbrev pub is_named : GroupName → GroupState → Bool
is_named name g = same_name name g.name

-- whether there is a group of this name
abbrev pub has_group : List GroupState → GroupName → Bool
has_group groups name = list_any (is_named name) groups

-- the alerts of the group of this name
abbrev pub members_in : List GroupState → GroupName → List MemberState
members_in groups name = unwrap_or (option_map (λ g. g.members) (find (is_named name) groups)) []

-- whether a flush of the group of this name is open
abbrev pub is_flushing : List FlushState → GroupName → Bool
is_flushing flushes name = list_any (λ f. same_name name f.group) flushes

-- the open flush of this number
abbrev pub flush_numbered : List FlushState → ℕ → Option FlushState
flush_numbered flushes number = find (λ f. f.number == number) flushes
