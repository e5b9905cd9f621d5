-- A finish takes the alerts that leave out of their group.
use Rattle.std.proofs.Common.{◌≡◌, ℕ, ◌<◌, false, Option, Some, None, List}
use Rattle.std.proofs.Common.{[], length, map, get_or, set, find, count_by, unwrap_or, refl, sym, ap, ◌∙◌, arith}
use Rattle.std.specs.Prelude.{position}
use Rattle.std.specs.List.{list_all, IsDistinct}
use Rattle.std.specs.Option.{option_map}
use Rattle.std.proofs.lemmas.List.{length-map, get_or-map, map-set}
use Rattle.std.proofs.lemmas.List.Folds.{list_all-map}
use Rattle.std.proofs.lemmas.List.Quantifiers.{position-Some}
use Rattle.std.proofs.lemmas.List.Sums.{length-filter}
use Rattle.am_retry.specs.declared.outcome.Outcome.{Outcome}
use Rattle.am_model.specs.Finish.{has_succeeded, all_succeeded}
use Rattle.am_model.specs.Insert.{same_group}
use Rattle.am_board.specs.Finishing.{leaves_where, without_leaving}
use Rattle.am_board.specs.Refinement.{notified_state_of, member_state, group_state, flush_state}
use Rattle.am_model.specs.Lists.{changed_where}
use Rattle.am_model.specs.State.{MemberState, GroupState, same_name, is_named, members_in}
use Rattle.am_board.specs.declared.flush.LeavingAlert.{LeavingAlert}
use Rattle.am_board.specs.declared.flush.OpenFlush.{OpenFlush}
use Rattle.am_board.specs.declared.group.Group.{Group}
use Rattle.am_model.specs.declared.group.GroupName.{GroupName}
use Rattle.am_model.proofs.lists.Alone.{IsAlone, find-position, find-no_position, find-mapped, none-find, filter-none, all-never, without-none, changed_where-none, changed_where-same, changed_where-alone, alone-distinct}
use Rattle.am_model.proofs.states.Alike.{same_group_equiv, same_name_equiv}

-- ---- a name that no group has, and one that a group has

module _ (name : GroupName) (groups : List Group) (i : ℕ) (d : Group) where
  pub group-found : position (λ g. same_name name g.name) groups ≡ Some i → find (is_named name) (map group_state groups) ≡ Some (group_state (get_or groups i d))
  group-found at = find-mapped (is_named name) group_state groups ∙ ap (option_map group_state) (find-position (λ g. same_name name g.name) groups i d at)

  pub members-found : position (λ g. same_name name g.name) groups ≡ Some i → members_in (map group_state groups) name ≡ map member_state (get_or groups i d).members.items
  members-found at = ap (λ (o : Option GroupState). unwrap_or (option_map (λ g. g.members) o) []) (group-found at)

pub group-missing : (name : GroupName) (groups : List Group) → position (λ g. same_name name g.name) groups ≡ None → find (is_named name) (map group_state groups) ≡ None
group-missing name groups at = find-mapped (is_named name) group_state groups ∙ ap (option_map group_state) (find-no_position (λ g. same_name name g.name) groups at)

pub members-missing : (name : GroupName) (groups : List Group) → position (λ g. same_name name g.name) groups ≡ None → members_in (map group_state groups) name ≡ []
members-missing name groups at = ap (λ (o : Option GroupState). unwrap_or (option_map (λ g. g.members) o) []) (group-missing name groups at)

pub changed-missing : (name : GroupName) (groups : List Group) (change : GroupState → GroupState) → position (λ g. same_name name g.name) groups ≡ None → changed_where (is_named name) change (map group_state groups) ≡ map group_state groups
changed-missing name groups change at = changed_where-none (is_named name) change (map group_state groups) (none-find (is_named name) (map group_state groups) (group-missing name groups at))

-- a change of the group that has the name, where no two groups have one
pub changed-found : (name : GroupName) (groups : List Group) (i : ℕ) (d : Group) (change : GroupState → GroupState) (g : Group) → position (λ g. same_name name g.name) groups ≡ Some i → IsDistinct same_group (map group_state groups)
    → group_state g ≡ change (group_state (get_or groups i d)) → map group_state (set groups i g) ≡ changed_where (is_named name) change (map group_state groups)
changed-found name groups i d change g at distinct is =
    let h = position-Some (λ (x : Group). same_name name x.name) groups i d at in
    let there : get_or (map group_state groups) i (group_state d) ≡ group_state (get_or groups i d) = get_or-map group_state groups i d (group_state d) h.0 in
    let within : i < length (map group_state groups) = omega (arith, h.0, length-map groups group_state) in
    let like : (y : GroupState) → is_named name y ≡ same_group (get_or (map group_state groups) i (group_state d)) y =
    λ y. same_name_equiv.congr name (get_or groups i d).name y.name h.1 ∙ ap (λ (x : GroupState). same_name x.name y.name) (sym there) in
    let alone : IsAlone (is_named name) (map group_state groups) i = alone-distinct same_group same_group_equiv (is_named name) (map group_state groups) i (group_state d) within distinct like in
    map-set group_state groups i g ∙ ap (set (map group_state groups) i) (is ∙ ap change (sym there)) ∙ sym (changed_where-alone (is_named name) change (map group_state groups) i (group_state d) alone)

-- ---- whether all succeeded

pub all-kept : (outcomes : List (ℕ × Outcome)) (f : OpenFlush) → all_succeeded outcomes (flush_state f) ≡ list_all (λ a. has_succeeded outcomes (notified_state_of a)) f.notified.items
all-kept outcomes f = list_all-map (has_succeeded outcomes) notified_state_of f.notified.items

-- where one failed nobody leaves
module _ (leaving : List LeavingAlert) where
  pub none-leave : (ms : List MemberState) → count_by (leaves_where false leaving) ms ≡ 0
  none-leave ms =
      sym (length-filter (leaves_where false leaving) ms)
      ∙ ap length (filter-none (leaves_where false leaving) ms (all-never (leaves_where false leaving) (λ m. refl) ms))

  same-group : (g : GroupState) → without_leaving false leaving g ≡ g
  same-group g = ap (λ ms. record g { members = ms }) (without-none (leaves_where false leaving) g.members (all-never (leaves_where false leaving) (λ m. refl) g.members))

  pub groups-stay : (name : GroupName) (groups : List GroupState) → changed_where (is_named name) (without_leaving false leaving) groups ≡ groups
  groups-stay name groups = changed_where-same (is_named name) (without_leaving false leaving) same-group groups
