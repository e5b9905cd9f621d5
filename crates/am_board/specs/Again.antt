-- Again: between the code of an insert of an alert that is known, and that all its groups have, and the definition Insert.
use Rattle.std.specs.Prelude.{◌≡◌, ℕ, ◌+◌, ◌<◌, ◌≤◌, Bool, true, false, Option, Some, None, Result, Ok, Err}
use Rattle.std.specs.Prelude.{List, length, map, fold, All, slice_index_or, vec_len, vec_capacity}
use Rattle.std.specs.declared.alloc.AllocError.{AllocError}
use Rattle.std.specs.VecDeque.{deque_len}
use Rattle.am_alerts.specs.AlertData.{AlertData}
use Rattle.am_alerts.specs.declared.labels.Label.{Label}
use Rattle.am_model.specs.Causes.{makes_too_many}
use Rattle.am_model.specs.Insert.{put_into_group, inserted, after_insert}
use Rattle.am_model.specs.State.{MemberState, has_group, time}
use Rattle.am_model.specs.declared.config.Config.{Config}
use Rattle.am_model.specs.declared.group.GroupName.{GroupName}
use Rattle.am_model.specs.declared.record.Inserted.{Inserted}
use Rattle.am_board.specs.declared.again.Spot.{Spot}
use Rattle.am_board.specs.declared.group.Group.{Group}
use Rattle.am_board.specs.declared.state.State.{State}
use Rattle.am_board.specs.Group.{names_of, label_sets}
use Rattle.am_board.specs.GroupList.{GroupList}
use Rattle.am_board.specs.Marks.{marks_of}
use Rattle.am_board.specs.Inserting.{index_in, IsReservedState}
use Rattle.am_board.specs.Members.{index_of}
use Rattle.am_board.specs.Refinement.{group_state, state_of}

-- the group at an index has the alert of these labels at an index
abbrev pub HasAt : List Label → Spot → List Group → Type 0
HasAt labels spot groups = (d : Group) → index_of labels (slice_index_or groups spot.group d).members.items ≡ Some spot.member

-- the group of a name was found, and the alert of these labels in it
pub record IsSpot (groups : List Group) (name : GroupName) (labels : List Label) (spot : Spot) : Type 0 where
  pub group : index_in name groups ≡ Some spot.group
  pub within : spot.group < length groups
  pub member : HasAt labels spot groups

-- a member was put into each group of these names, all of which were there and had an alert of its labels
pub record IsPutInEach (config : Config) (t : ℕ) (m : MemberState) (wanted : List GroupName) (old new : GroupList) : Type 0 where
  pub there : All (λ name. has_group (map group_state old.items) name ≡ true) wanted
  pub names : names_of new.items ≡ names_of old.items
  pub marks : marks_of new.items ≡ marks_of old.items
  pub labels : map label_sets new.items ≡ map label_sets old.items
  pub state : map group_state new.items ≡ fold (put_into_group config t m) (map group_state old.items) wanted

-- a member was put into each group of these names, or all are as they were
abbrev pub PutsInEach : Config → ℕ → MemberState → List GroupName → Result Bool AllocError → GroupList → GroupList → Type 0
PutsInEach config t m names (Ok true) old new = IsPutInEach config t m names old new
PutsInEach config t m names (Ok false) old new = new ≡ old
PutsInEach config t m names (Err e) old new = new ≡ old

-- an alert was put in place of the known one and of the one in each of its groups; there is capacity for the record
pub record IsPutAgain (config : Config) (now : ℕ) (alert : AlertData) (answer : Inserted) (old new : State) : Type 0 where
  pub few : makes_too_many config (state_of old) alert ≡ false
  pub returned : inserted config (state_of old) alert ≡ answer
  pub state : state_of new ≡ after_insert config (state_of old) (time (state_of old) now) alert
  pub names : names_of new.groups.items ≡ names_of old.groups.items
  pub marks : marks_of new.groups.items ≡ marks_of old.groups.items
  pub log : new.log ≡ old.log
  pub flushes : new.flushes ≡ old.flushes
  pub history : new.history.items ≡ old.history.items
  pub records : vec_len new.history ≡ vec_len old.history
  pub space : vec_len new.history + deque_len new.flushes + 1 ≤ vec_capacity new.history

-- an alert was put so, or the state holds what it held
abbrev pub PutsAgain : Config → ℕ → AlertData → Result (Option Inserted) AllocError → State → State → Type 0
PutsAgain config now alert (Ok (Some returned)) old new = IsPutAgain config now alert returned old new
PutsAgain config now alert (Ok None) old new = IsReservedState old new
PutsAgain config now alert (Err e) old new = IsReservedState old new
