-- The alerts of the group of a name.
use Rattle.std.proofs.Common.{◌≡◌, Bool, true, false, cond, not, Option, Some, List, [], ◌∷◌, map, refl, sym, ap, ◌∙◌}
use Rattle.std.specs.Prelude.{find, unwrap_or}
use Rattle.std.specs.Option.{option_map}
use Rattle.std.specs.List.{AllByRecursion, IsDistinct}
use Rattle.std.proofs.lemmas.Map.Keys.{IsDistinct-head, IsDistinct-tail}
use Rattle.am_nflog.specs.Members.{is_empty}
use Rattle.am_model.specs.declared.group.GroupName.{GroupName}
use Rattle.am_model.specs.Insert.{same_group}
use Rattle.am_model.specs.Lists.{upsert, without, changed_where}
use Rattle.am_model.specs.State.{MemberState, GroupState, same_name, is_named, members_in}
use Rattle.am_model.specs.Maintenance.{has_no_alerts}
use Rattle.am_model.proofs.lists.Distinct.{all-both}
use Rattle.am_model.proofs.states.Alike.{same_name_equiv}

-- ---- the alerts of the group of a name, by recursion

abbrev pub members_of : List GroupState → GroupName → List MemberState
members_of [] name = []
members_of (g ∷ gs) name = cond (is_named name g) g.members (members_of gs name)

-- the alerts of a group that was looked for
abbrev members_found : Option GroupState → List MemberState
members_found o = unwrap_or (option_map (λ g. g.members) o) []

pub members_of-in : (gs : List GroupState) (name : GroupName) → members_in gs name ≡ members_of gs name
members_of-in [] name = refl
members_of-in (g ∷ gs) name =
    elim (is_named name g) as (λ b. members_found (cond b (Some g) (find (is_named name) gs)) ≡ cond b g.members (members_of gs name)) [
      | true ↦ refl
      | false ↦ members_of-in gs name
    ]

-- the group of this name has alerts
abbrev pub IsAlive : List GroupState → GroupName → Type 0
IsAlive gs name = is_empty (members_of gs name) ≡ false

-- each group of groups with different names is the one of its name
pub members_of-own : (gs : List GroupState) → IsDistinct same_group gs → AllByRecursion (λ g. members_of gs g.name ≡ g.members) gs
members_of-own [] h = tt
members_of-own (g ∷ gs) h = (
  ap (λ b. cond b g.members (members_of gs g.name)) (same_name_equiv.refl g.name),
  all-both (λ k. same_group g k ≡ false) (λ k. members_of gs k.name ≡ k.members) (λ k. members_of (g ∷ gs) k.name ≡ k.members)
      (λ k apart is. ap (λ b. cond b g.members (members_of gs k.name)) (same_name_equiv.symm k.name g.name ∙ apart) ∙ is)
      gs (IsDistinct-head same_group g gs h) (members_of-own gs (IsDistinct-tail same_group g gs h)),
)

-- a change of groups that keeps their names and, where they have this one, their alerts
pub members_of-changed : (name : GroupName) (f : GroupState → GroupState) → ((g : GroupState) → (f g).name ≡ g.name) → ((g : GroupState) → is_named name g ≡ true → (f g).members ≡ g.members) → (gs : List GroupState) → members_of (map f gs) name ≡ members_of gs name
members_of-changed name f names members [] = refl
members_of-changed name f names members (g ∷ gs) =
    let rest = members_of-changed name f names members gs in
    let seen : is_named name (f g) ≡ is_named name g = ap (λ n. same_name name n) (names g) in
    ap (λ b. cond b (f g).members (members_of (map f gs) name)) seen
    ∙ elim (is_named name g) as (λ b. is_named name g ≡ b → cond b (f g).members (members_of (map f gs) name) ≡ cond b g.members (members_of gs name)) [
      | true ↦ λ e. members g e
      | false ↦ λ e. rest
    ] refl

-- a change of the groups of one name that keeps names
module _ (own : GroupName) (f : GroupState → GroupState) (names : (g : GroupState) → (f g).name ≡ g.name) where
  where_named : (g : GroupState) → (b : Bool) → (cond b (f g) g).name ≡ g.name
  where_named g true = names g
  where_named g false = refl

  pub name-changed_where : (g : GroupState) → (cond (is_named own g) (f g) g).name ≡ g.name
  name-changed_where g = where_named g (is_named own g)

  -- a group of another name has the alerts that it had
  pub members_of-elsewhere : (name : GroupName) → same_name own name ≡ false → (gs : List GroupState) → members_of (changed_where (is_named own) f gs) name ≡ members_of gs name
  members_of-elsewhere name apart gs =
      members_of-changed name (λ g. cond (is_named own g) (f g) g) name-changed_where
      (λ g is. ap (λ b. (cond b (f g) g).members) (not_own g is)) gs
    where
      not_own : (g : GroupState) → same_name name g.name ≡ true → same_name own g.name ≡ false
      not_own g is = same_name_equiv.symm own g.name ∙ (sym (same_name_equiv.congr name g.name own is) ∙ (same_name_equiv.symm name own ∙ apart))

  -- a change that keeps alerts keeps those of each name
  pub members_of-kept : ((g : GroupState) → (f g).members ≡ g.members) → (name : GroupName) (gs : List GroupState) → members_of (changed_where (is_named own) f gs) name ≡ members_of gs name
  members_of-kept kept name gs =
      members_of-changed name (λ g. cond (is_named own g) (f g) g) name-changed_where (λ g is. same g (is_named own g)) gs
    where
      same : (g : GroupState) (b : Bool) → (cond b (f g) g).members ≡ g.members
      same g true = kept g
      same g false = refl

-- a group with alerts that is put in keeps each name's group alive
pub alive-upsert : (name : GroupName) (g : GroupState) (gs : List GroupState) → is_empty g.members ≡ false → IsAlive gs name → IsAlive (upsert same_group g gs) name
alive-upsert name g [] some alive = absurd (cc)
alive-upsert name g (k ∷ gs) some alive =
    elim (same_group g k) as (λ b. same_group g k ≡ b → IsAlive (cond b (g ∷ gs) (k ∷ upsert same_group g gs)) name) [
      | true ↦ λ e. here (is_named name g) (is_named name k) (same_name_equiv.symm name g.name ∙ (same_name_equiv.congr g.name k.name name e ∙ same_name_equiv.symm k.name name)) alive
      | false ↦ λ e. later (is_named name k) (alive-upsert name g gs some) alive
    ] refl
  where
    here : (b c : Bool) → b ≡ c → is_empty (cond c k.members (members_of gs name)) ≡ false → is_empty (cond b g.members (members_of gs name)) ≡ false
    here true c e h = some
    here false true e h = absurd (cc)
    here false false e h = h

    later : (b : Bool) → (IsAlive gs name → IsAlive (upsert same_group g gs) name) → is_empty (cond b k.members (members_of gs name)) ≡ false → is_empty (cond b k.members (members_of (upsert same_group g gs) name)) ≡ false
    later true rest h = h
    later false rest h = rest h

-- groups with alerts stay where those without go
pub alive-kept : (name : GroupName) (gs : List GroupState) → IsAlive gs name → IsAlive (without has_no_alerts gs) name
alive-kept name [] alive = alive
alive-kept name (g ∷ gs) alive =
    elim (is_empty g.members) as (λ b. is_empty g.members ≡ b → IsAlive (cond (not b) (g ∷ without has_no_alerts gs) (without has_no_alerts gs)) name) [
      | true ↦ λ e. gone (is_named name g) (alive-kept name gs) e alive
      | false ↦ λ e. stays (is_named name g) (alive-kept name gs) e alive
    ] refl
  where
    gone : (b : Bool) → (IsAlive gs name → IsAlive (without has_no_alerts gs) name) → is_empty g.members ≡ true → is_empty (cond b g.members (members_of gs name)) ≡ false → IsAlive (without has_no_alerts gs) name
    gone true rest e h = absurd (cc)
    gone false rest e h = rest h

    stays : (b : Bool) → (IsAlive gs name → IsAlive (without has_no_alerts gs) name) → is_empty g.members ≡ false → is_empty (cond b g.members (members_of gs name)) ≡ false → is_empty (cond b g.members (members_of (without has_no_alerts gs) name)) ≡ false
    stays true rest e h = e
    stays false rest e h = rest h
