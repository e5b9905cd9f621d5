-- Group: stored groups, and the changes of one of them.
use Rattle.std.specs.Prelude.{◌≡◌, ℕ, ◌+◌, ◌≤◌, ◌⊎◌, List, [], ◌∷◌, ◌++◌, map, All}
use Rattle.std.specs.Prelude.{slice_index_or, slice_set}
use Rattle.am_alerts.specs.RoutingTree.{RoutingTree, last_of}
use Rattle.am_alerts.specs.declared.labels.Label.{Label}
use Rattle.am_model.specs.declared.group.GroupName.{GroupName}
use Rattle.am_board.specs.declared.group.Group.{Group}
use Rattle.am_board.specs.GroupList.{GroupList}
use Rattle.am_board.specs.Members.{labels_of}
use Rattle.am_board.specs.Refinement.{group_state}
use Rattle.am_model.specs.declared.config.Config.{Config}
use Rattle.am_model.specs.Insert.{wait_of, group_with}
use Rattle.am_model.specs.State.{MemberState}

abbrev pub names_of : List Group → List GroupName
names_of groups = map (λ g. g.name) groups

-- the label sets of a group's alerts
abbrev pub label_sets : Group → List (List Label)
label_sets g = map labels_of g.members.items

-- each name's route is one of the tree
abbrev pub AreRouted : RoutingTree → List GroupName → Type 0
AreRouted tree names = All (λ n. n.route ≤ last_of tree) names

-- the name was added last, or nothing was
abbrev pub AddsAtMost : List GroupName → GroupName → List GroupName → Type 0
AddsAtMost old name new = (new ≡ old) ⊎ (new ≡ old ++ name ∷ [])

-- a group has capacity for so many more alerts
abbrev pub Fits : ℕ → Group → Type 0
Fits n g = n ≤ g.members.space

-- a group of this name has capacity for so many more alerts
abbrev pub HasSpace : ℕ → GroupName → List Group → Type 0
HasSpace n name groups = All (λ g. g.name ≡ name → Fits n g) groups

-- the group is the same, with no less capacity
pub record IsReserved (old new : Group) : Type 0 where
  pub name : new.name ≡ old.name
  pub is_open : new.is_open ≡ old.is_open
  pub space : old.members.space ≤ new.members.space
  pub state : group_state new ≡ group_state old

-- the group at an index was changed, but not its name
pub record Changes (change : Group → Group → Type 0) (i : ℕ) (old new : GroupList) : Type 0 where
  pub from : Group
  pub to : Group
  pub was : from ≡ slice_index_or old.items i from
  pub items : new.items ≡ slice_set old.items i to
  pub space : new.space ≡ old.space
  pub name : to.name ≡ from.name
  pub changed : change from to

-- a member was put into the group, which waits so long before its first flush
pub record Gets (m : MemberState) (wait t : ℕ) (from to : Group) : Type 0 where
  pub is_open : to.is_open ≡ from.is_open
  pub space : from.members.space ≤ to.members.space + 1
  pub state : (config : Config) → wait ≡ wait_of config from.name → group_state to ≡ group_with config t m (group_state from)
