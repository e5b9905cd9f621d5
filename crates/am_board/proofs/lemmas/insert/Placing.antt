-- The groups of a state, as an insert puts an alert into one of those that are kept.
use Rattle.std.proofs.Common.{◌≡◌, ℕ, ◌+◌, ◌<◌, Bool, false, Option, Some, None, List, [], ◌∷◌, ◌++◌, map, length, get_or, take, refl, sym, ap, ◌∙◌, subst, arith}
use Rattle.std.specs.Prelude.{find, unwrap_or}
use Rattle.std.proofs.Math.ListN.{set}
use Rattle.std.proofs.lemmas.List.{get_or-map, map-append, take_more}
use Rattle.am_model.specs.declared.config.Config.{Config}
use Rattle.am_board.specs.declared.group.Group.{Group}
use Rattle.am_model.specs.declared.group.GroupName.{GroupName}
use Rattle.am_board.specs.declared.insert.Placement.{Placement}
use Rattle.am_model.specs.Insert.{same_group, wait_of, new_group, group_with, put_into_group}
use Rattle.am_board.specs.declared.group.Member.{Member}
use Rattle.am_board.specs.Inserting.{index_in}
use Rattle.am_board.specs.Refinement.{member_state, group_state}
use Rattle.am_model.specs.Lists.{upsert}
use Rattle.am_model.specs.State.{MemberState, GroupState, is_named}
use Rattle.am_model.proofs.lists.Alone.{find-position, find-no_position}
use Rattle.am_model.proofs.lists.Indexes.{put_map_at, put_map_new, position-map}

find_kept : (gs : List Group) (i : ℕ) (old : Group) (name : GroupName) → index_in name gs ≡ Some i → i < length gs → old ≡ get_or gs i old → find (is_named name) (map group_state gs) ≡ Some (group_state old)
find_kept gs i old name at within is =
    find-position (is_named name) (map group_state gs) i (group_state old) (position-map group_state (is_named name) gs ∙ at)
    ∙ ap (λ g. Some g) (get_or-map group_state gs i old (group_state old) within ∙ ap group_state (sym is))

find_no_kept : (gs : List Group) (name : GroupName) → index_in name gs ≡ None → find (is_named name) (map group_state gs) ≡ None
find_no_kept gs name at =
    find-no_position (is_named name) (map group_state gs) (position-map group_state (is_named name) gs ∙ at)

nothing_in : (xs : List Member) → length xs ≡ 0 → map member_state xs ≡ []
nothing_in [] e = refl
nothing_in (x ∷ xs) e = absurd (omega (arith, e))

-- a group without members that is due when its wait is over is a new one
pub new_group_is : (config : Config) (t : ℕ) (g : Group) (name : GroupName) → g.name ≡ name → g.due ≡ t + wait_of config name → g.flushed ≡ false → length g.members.items ≡ 0 → group_state g ≡ new_group config t name
new_group_is config t g name named due flushed few =
    ap (λ (ms : List MemberState). record { name = g.name; due = g.due; flushed = g.flushed; members = ms }) (nothing_in g.members.items few)
    ∙ (ap (λ (b : Bool). record { name = g.name; due = g.due; flushed = b; members = [] }) flushed
    ∙ (ap (λ (d : ℕ). record { name = g.name; due = d; flushed = false; members = [] }) due
    ∙ ap (λ (n : GroupName). record { name = n; due = t + wait_of config name; flushed = false; members = [] }) named))

module _ (config : Config) (t : ℕ) (m : MemberState) where
  -- where a group is, with the member in it
  pub put_group_at : (gs : List Group) (i : ℕ) (old new : Group) (name : GroupName) → index_in name gs ≡ Some i → i < length gs → old ≡ get_or gs i old → old.name ≡ name → group_state new ≡ group_with config t m (group_state old) → map group_state (set gs i new) ≡ put_into_group config t m (map group_state gs) name
  put_group_at gs i old new name at within is named e =
      let same : new.name ≡ name = ap (λ (g : GroupState). g.name) e ∙ named in
      let given = ap (λ (o : Option GroupState). upsert same_group (group_with config t m (unwrap_or o (new_group config t name))) (map group_state gs)) (find_kept gs i old name at within is) in
      put_map_at group_state same_group new gs i (subst (λ n. index_in n gs ≡ Some i) (sym same) at)
      ∙ (ap (λ (g : GroupState). upsert same_group g (map group_state gs)) e ∙ sym given)

  -- where there is none, a new one with the member in it is added
  pub put_group_new : (gs : List Group) (new : Group) (name : GroupName) → index_in name gs ≡ None → group_state new ≡ group_with config t m (new_group config t name) → map group_state (gs ++ new ∷ []) ≡ put_into_group config t m (map group_state gs) name
  put_group_new gs new name at e =
      let same : new.name ≡ name = ap (λ (g : GroupState). g.name) e in
      let given = ap (λ (o : Option GroupState). upsert same_group (group_with config t m (unwrap_or o (new_group config t name))) (map group_state gs)) (find_no_kept gs name at) in
      put_map_new group_state same_group new gs (subst (λ n. index_in n gs ≡ None) (sym same) at)
      ∙ (ap (λ (g : GroupState). upsert same_group g (map group_state gs)) e ∙ sym given)

-- the names so far, with one more
pub names_more : (f : ℕ → GroupName) (ps : List Placement) (p : Placement) (routes : List ℕ) (i : ℕ) → i < length routes → map (λ x. x.name) ps ≡ map f (take i routes) → p.name ≡ f (get_or routes i 0) → map (λ x. x.name) (ps ++ p ∷ []) ≡ map f (take (i + 1) routes)
names_more f ps p routes i within before e =
    map-append (λ (x : Placement). x.name) ps (p ∷ [])
    ∙ (ap (λ ns. ns ++ p.name ∷ []) before
    ∙ (ap (λ n. map f (take i routes) ++ n ∷ []) e
    ∙ (sym (map-append f (take i routes) (get_or routes i 0 ∷ []))
    ∙ ap (map f) (sym (take_more routes i 0 within)))))

-- the same, by names that are there
pub named_more : (ps : List Placement) (p : Placement) (names : List GroupName) (i : ℕ) → i < length names → map (λ x. x.name) ps ≡ take i names → p.name ≡ get_or names i p.name → map (λ x. x.name) (ps ++ p ∷ []) ≡ take (i + 1) names
named_more ps p names i within before e =
    map-append (λ (x : Placement). x.name) ps (p ∷ [])
    ∙ (ap (λ ns. ns ++ p.name ∷ []) before
    ∙ (ap (λ n. take i names ++ n ∷ []) e
    ∙ sym (take_more names i p.name within)))
