-- An alert is put in place of the one with its labels in each of its groups, one after the other.
use Rattle.std.proofs.Common.{◌≡◌, ℕ, ◌<◌, ◌≤◌, Bool, true, false, not, Some, Ok, List, [], ◌∷◌, ◌++◌, map, length, get_or, refl, sym, ap, ◌∙◌, subst, arith}
use Rattle.std.specs.Prelude.{All, count_by, fold, is_none}
use Rattle.std.specs.List.{position}
use Rattle.std.proofs.lemmas.Bool.{false≢true}
use Rattle.std.proofs.lemmas.List.{get_or-map, length-map}
use Rattle.std.proofs.lemmas.List.Elements.{All-append, All-cons, All-nil}
use Rattle.std.proofs.lemmas.List.Sums.{fold-append, length-filter}
use Rattle.am_alerts.proofs.Positions.{routes_of-exist}
use Rattle.am_alerts.specs.RoutingTree.{last_of, routes_of}
use Rattle.am_alerts.specs.Labels.{same_label_set}
use Rattle.am_alerts.specs.declared.labels.Label.{Label}
use Rattle.am_model.proofs.lists.Alone.{filter-none}
use Rattle.am_model.proofs.lists.Distinct.{all_from, all_to, all-map, all-weaker}
use Rattle.am_model.proofs.lists.Indexes.{position-map}
use Rattle.am_model.specs.Insert.{name_in, names_for, put_into_group, wait_of}
use Rattle.am_model.specs.State.{MemberState, GroupState, has_group}
use Rattle.am_model.specs.declared.config.Config.{Config}
use Rattle.am_model.specs.declared.group.GroupName.{GroupName}
use Rattle.am_board.specs.Again.{HasAt, IsSpot, IsPutInEach, PutsInEach}
use Rattle.am_board.specs.Group.{names_of, label_sets, AreRouted, Changes, Gets}
use Rattle.am_board.specs.GroupList.{GroupList}
use Rattle.am_board.specs.Inserting.{index_in}
use Rattle.am_board.specs.Members.{labels_of, index_of}
use Rattle.am_board.specs.Refinement.{group_state}
use Rattle.am_board.specs.declared.again.Spot.{Spot}
use Rattle.am_board.specs.declared.group.Group.{Group}
use Rattle.am_board.specs.declared.group.Member.{Member}
use Rattle.am_board.proofs.lemmas.insert.Found.{found_within, same_indexes}
use Rattle.am_board.proofs.lemmas.insert.GroupSpace.{named_at}
use Rattle.am_board.proofs.lemmas.insert.Inserting.{missing_is}
use Rattle.am_board.proofs.lemmas.insert.Placing.{put_group_at}
use Rattle.am_board.proofs.lemmas.invariant.GroupNames.{names_set}
use Rattle.am_board.specs.Marks.{marks_of}
use Rattle.am_board.proofs.lemmas.invariant.Marks.{marks_set}

not_false : (b : Bool) → not b ≡ false → b ≡ true
not_false true e = refl
not_false false e = absurd (false≢true (sym e))

-- a group that is found is there
pub there_found : (gs : List Group) (name : GroupName) (i : ℕ) → index_in name gs ≡ Some i → has_group (map group_state gs) name ≡ true
there_found gs name i at = not_false (has_group (map group_state gs) name) (sym (missing_is gs name) ∙ ap (λ o. is_none o) at)

-- the groups of an alert are of routes that are there
pub names_routed : (config : Config) (labels : List Label) → AreRouted config.routes (names_for config labels)
names_routed config labels =
    let Is : GroupName → Type 0 = λ n. n.route ≤ last_of config.routes in
    let routes : List ℕ = routes_of config.routes labels in
    all_from Is (names_for config labels) (all-map (name_in config labels) Is routes (all_to (λ (r : ℕ). r ≤ last_of config.routes) routes (routes_of-exist config.routes labels)))

-- where all groups are there none has to be made
pub made_none : (gs : List GroupState) (names : List GroupName) → All (λ n. has_group gs n ≡ true) names → count_by (λ n. not (has_group gs n)) names ≡ 0
made_none gs names there =
    let Is : GroupName → Type 0 = λ n. has_group gs n ≡ true in
    let missing : GroupName → Bool = λ n. not (has_group gs n) in
    sym (length-filter missing names)
    ∙ ap length (filter-none missing names (all-weaker Is (λ n. missing n ≡ false) (λ n h. ap not h) names (all_to Is names there)))

-- the groups were changed
pub is_put : (config : Config) (t : ℕ) (m : MemberState) (names : List GroupName) (old new : GroupList) (b : Bool) → b ≡ true → PutsInEach config t m names (Ok b) old new → IsPutInEach config t m names old new
is_put config t m names old new b e h = subst (λ x. PutsInEach config t m names (Ok x) old new) e h

-- ---- an alert is where it was, as the label sets say

index_mapped : (labels : List Label) (ms : List Member) → index_of labels ms ≡ position (same_label_set labels) (map labels_of ms)
index_mapped labels ms = sym (position-map labels_of (same_label_set labels) ms)

module _ (old new : List Group) (same : map label_sets new ≡ map label_sets old) (i : ℕ) (within : i < length old) where
  sets_at : (d : Group) → label_sets (get_or new i d) ≡ label_sets (get_or old i d)
  sets_at d =
      let still : i < length new = omega (arith, within, ap length same, length-map new label_sets, length-map old label_sets) in
      sym (get_or-map label_sets new i d (label_sets d) still)
      ∙ ap (λ (sets : List (List (List Label))). get_or sets i (label_sets d)) same
      ∙ get_or-map label_sets old i d (label_sets d) within

  index_still : (labels : List Label) (d : Group) → index_of labels (get_or new i d).members.items ≡ index_of labels (get_or old i d).members.items
  index_still labels d =
      index_mapped labels (get_or new i d).members.items
      ∙ ap (position (same_label_set labels)) (sets_at d)
      ∙ sym (index_mapped labels (get_or old i d).members.items)

pub has_still : (labels : List Label) (spot : Spot) (old new : List Group) → map label_sets new ≡ map label_sets old → spot.group < length old → HasAt labels spot old → HasAt labels spot new
has_still labels spot old new same within has d = index_still old new same spot.group within labels d ∙ has d

-- ---- one group more

module _ (config : Config) (t : ℕ) (m : MemberState) (old mid new : GroupList) (names : List GroupName) (name : GroupName) (labels : List Label) (spot : Spot) (wait : ℕ) where
  pub put_one_more : IsPutInEach config t m names old mid → IsSpot old.items name labels spot → Changes (Gets m wait t) spot.group mid new → map label_sets new.items ≡ map label_sets mid.items
      → wait ≡ wait_of config name → (wanted : List GroupName) → wanted ≡ names ++ name ∷ [] → IsPutInEach config t m wanted old new
  put_one_more put found group sets waits wanted all =
      let at : index_in name mid.items ≡ Some spot.group = same_indexes name old.items mid.items put.names ∙ found.group in
      let within : spot.group < length mid.items = found_within (Some spot.group) name mid.items (sym at) in
      let of_name : group.from.name ≡ name = ap (λ (g : Group). g.name) group.was ∙ named_at name mid.items spot.group group.from at in
      let Is : GroupName → Type 0 = λ n. has_group (map group_state old.items) n ≡ true in
      let there : All Is (names ++ name ∷ []) = All-append Is names (name ∷ []) put.there (All-cons Is name [] (there_found old.items name spot.group found.group) (All-nil Is)) in
      record {
        there = subst (All Is) (sym all) there;
        names = ap names_of group.items ∙ names_set mid.items spot.group group.to group.from (group.name ∙ ap (λ (g : Group). g.name) group.was) ∙ put.names;
        marks = ap marks_of group.items ∙ marks_set mid.items spot.group group.to group.from (group.name ∙ ap (λ (g : Group). g.name) group.was) (group.changed.is_open ∙ ap (λ (g : Group). g.is_open) group.was) ∙ put.marks;
        labels = sets ∙ put.labels;
        state =
            ap (map group_state) group.items
            ∙ put_group_at config t m mid.items spot.group group.from group.to name at within group.was of_name (group.changed.state config (waits ∙ ap (wait_of config) (sym of_name)))
            ∙ ap (λ gs. put_into_group config t m gs name) put.state
            ∙ sym (fold-append (put_into_group config t m) (map group_state old.items) names (name ∷ []))
            ∙ ap (fold (put_into_group config t m) (map group_state old.items)) (sym all);
      }
