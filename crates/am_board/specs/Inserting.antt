-- Inserting: between the code of an insert and the definition Insert. What it puts into groups, and the capacity that it needs.
use Rattle.std.specs.List.{IsDistinct}
use Rattle.std.specs.Prelude.{◌≡◌, ℕ, ◌+◌, ◌<◌, ◌≤◌, ◌==◌, false, Option, None}
use Rattle.std.specs.Prelude.{List, [], length, map, position, All, IfSome, vec_len, vec_capacity}
use Rattle.std.specs.VecDeque.{deque_len}
use Rattle.am_alerts.specs.AlertData.{AlertData}
use Rattle.am_alerts.specs.Route.{group_labels_of}
use Rattle.am_alerts.specs.RoutingTree.{RoutingTree, last_of, route_at}
use Rattle.am_alerts.specs.declared.labels.Label.{Label}
use Rattle.am_model.specs.declared.config.Config.{Config}
use Rattle.am_model.specs.declared.group.GroupName.{GroupName}
use Rattle.am_model.specs.Causes.{is_full, is_alert_too_many}
use Rattle.am_model.specs.Insert.{names_for, same_alert}
use Rattle.am_alerts.specs.declared.limits.TheConstants.{MAX_DURATION}
use Rattle.am_board.specs.declared.insert.Found.{Found}
use Rattle.am_board.specs.declared.insert.Placement.{Placement}
use Rattle.am_board.specs.declared.insert.Target.{Target}
use Rattle.am_board.specs.declared.group.Group.{Group}
use Rattle.am_board.specs.declared.state.State.{State}
use Rattle.am_board.specs.Group.{names_of, HasSpace}
use Rattle.am_board.specs.Marks.{marks_of}
use Rattle.am_board.specs.Refinement.{member_state, state_of}
use Rattle.am_model.specs.State.{MemberState, same_name}

-- the index of the group of a name
abbrev pub index_in : GroupName → List Group → Option ℕ
index_in name groups = position (λ g. same_name name g.name) groups

-- the index of a group that an alert goes to was found: it is there, or there is none
abbrev pub IsFound : List Group → Target → Type 0
IsFound groups target = target.index ≡ index_in target.name groups

-- the group that a placement goes to
abbrev pub target_of : Placement → Target
target_of p = record { name = p.name; index = p.index }

-- the indexes of the groups that placements go to were found
abbrev pub AreFound : List Group → List Placement → Type 0
AreFound groups placements = All (λ p. IsFound groups (target_of p)) placements

-- no two placements are of one route, so each group gets one alert
abbrev pub AreApart : List Placement → Type 0
AreApart placements = IsDistinct (λ p q. p.name.route == q.name.route) placements

-- the list for a group that has to be made has capacity for an alert, and the group's name and the alert's labels are there once more
abbrev pub IsEmptyWithSpace : Placement → Type 0
IsEmptyWithSpace placement =
    (placement.members.items ≡ [])
    × (placement.index ≡ None → 0 < placement.members.space)
    × (placement.key ≡ placement.name)
    × (placement.labels ≡ placement.member.alert.labels)

-- the group of each placement has capacity for one more alert
abbrev pub HaveSpace : List Group → List Placement → Type 0
HaveSpace groups placements = All (λ p. HasSpace 1 p.name groups) placements

-- a state holds what it held, with no less capacity for records
pub record IsReservedState (old new : State) : Type 0 where
  pub state : state_of new ≡ state_of old
  pub names : names_of new.groups.items ≡ names_of old.groups.items
  pub marks : marks_of new.groups.items ≡ marks_of old.groups.items
  pub log : new.log ≡ old.log
  pub flushes : new.flushes ≡ old.flushes
  pub history : new.history.items ≡ old.history.items
  pub records : vec_len new.history ≡ vec_len old.history
  pub capacity : vec_capacity old.history ≤ vec_capacity new.history
  pub known : length new.known.items ≡ length old.known.items
  pub inserts : new.inserts ≡ old.inserts

-- a state has capacity for all that an insert adds, and for the finish of each open flush
pub record IsReadyFor (state : State) (placements : List Placement) : Type 0 where
  pub records : vec_len state.history + deque_len state.flushes + 1 ≤ vec_capacity state.history
  pub known : 1 ≤ state.known.space
  pub spare : length placements ≤ state.groups.space
  pub space : HaveSpace state.groups.items placements

-- each placement is of a route of the tree
abbrev pub AreRoutedPlacements : RoutingTree → List Placement → Type 0
AreRoutedPlacements tree placements = All (λ p. p.name.route ≤ last_of tree) placements

-- the name of a label set's group of the route at a position
abbrev pub name_at : RoutingTree → List Label → ℕ → GroupName
name_at tree labels route = record { route = route; labels = group_labels_of (route_at tree route) labels }

-- an alert with the stamp of its insert
abbrev pub stamped_alert : AlertData → ℕ → MemberState
stamped_alert alert stamp = record { alert = alert; stamp = stamp }

-- a placement puts this alert into a group that waits as its route says
pub record IsPlacementOf (tree : RoutingTree) (m : MemberState) (p : Placement) : Type 0 where
  pub wait : p.wait ≡ (route_at tree p.name.route).group_wait
  pub bounded : p.wait ≤ MAX_DURATION
  pub member : member_state p.member ≡ m

-- a placement has all that puts this alert into its group, whose index was found
abbrev pub IsToPut : RoutingTree → List Group → MemberState → Placement → Type 0
IsToPut tree groups m p = IsFound groups (target_of p) × IsEmptyWithSpace p × IsPlacementOf tree m p

-- what an insert found: there is capacity for its record and for its label set, the known alert is the one with its labels, and the
-- placements put it into the groups that it goes to
pub record IsWhereToPut (config : Config) (s : State) (alert : AlertData) (found : Found) : Type 0 where
  pub space : is_full config (vec_len s.history) (state_of s) 1 ≡ false
  pub few : is_alert_too_many config (state_of s) alert ≡ false
  pub index : found.index ≡ position (same_alert alert) s.known.items
  pub within : IfSome found.index (λ i. i < length s.known.items)
  pub names : map (λ p. p.name) found.placements.items ≡ names_for config alert.labels
  pub placements : All (IsToPut config.routes s.groups.items (stamped_alert alert (s.inserts + 1))) found.placements.items
