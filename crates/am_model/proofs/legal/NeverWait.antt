-- Each open flush has a group of its own, and so has the group that a begin takes. So where the limit of open flushes is that of groups,
-- no begin waits for a finish.
use Rattle.std.proofs.Common.{◌≡◌, ℕ, ◌+◌, ◌≤◌, Bool, true, false, not, ◌&&◌, ◌||◌, Option, Some, None, List, [], ◌∷◌, length, map, refl, sym, ap, ◌∙◌, subst, arith, if◌then◌else◌}
use Rattle.std.specs.Prelude.{All, IsTrue, filter, find, nat_le, unwrap_or}
use Rattle.std.specs.List.{list_any, AllByRecursion, IsDistinct}
use Rattle.std.specs.Option.{option_map}
use Rattle.std.specs.Set.{is_member}
use Rattle.std.proofs.lemmas.Bool.Decides.{nat_tests}
use Rattle.std.proofs.lemmas.List.{length-map}
use Rattle.std.proofs.lemmas.Map.Keys.{IsDistinct-cons}
use Rattle.std.proofs.lemmas.Map.Made.{All-is_member, length-le_from_is_member}
use Rattle.am_nflog.specs.Members.{is_empty}
use Rattle.am_model.specs.declared.fault.Fault.TheVariants.{TooManyOpen, HistoryFull}
use Rattle.am_model.specs.declared.group.GroupName.{GroupName}
use Rattle.am_model.specs.Begin.{due_cmp, may_begin, taken}
use Rattle.am_model.specs.Causes.{is_full, opens_by}
use Rattle.am_model.specs.Laws.{FlushesNeverWait, IsConsistent, IsHeld}
use Rattle.am_model.specs.State.{FlushState, GroupState, State, has_group, is_named, members_in, same_name}
use Rattle.am_model.proofs.legal.ConsistentBegin.{taken-is}
use Rattle.am_model.proofs.lists.Distinct.{IsDistinct-map, all-filter, all-least, all-map, all-mapped, all-weaker, all_to}
use Rattle.am_model.proofs.states.Alike.{same_name-is, same_name_equiv}

any-map : {X Y : Type 0} (f : X → Y) (test : Y → Bool) (xs : List X) → list_any test (map f xs) ≡ list_any (λ x. test (f x)) xs
any-map f test [] = refl
any-map f test (x ∷ xs) = λ i. test (f x) || any-map f test xs i

-- what holds of each name holds of one that is among them
of-one : (P : GroupName → Type 0) (name : GroupName) (names : List GroupName) → AllByRecursion P names → list_any (same_name name) names ≡ true → P name
of-one P name [] all among = absurd (cc)
of-one P name (n ∷ ns) all among =
    elim (same_name name n) as (λ b. same_name name n ≡ b → (b || list_any (same_name name) ns) ≡ true → P name) [
      | true ↦ λ is _. subst P (sym (same_name-is name n is)) all.0
      | false ↦ λ _ later. of-one P name ns all.1 later
    ] refl among

-- a group that has alerts is there
has-group : (groups : List GroupState) (name : GroupName) → IsTrue (not (is_empty (members_in groups name))) → has_group groups name ≡ true
has-group [] name alive = absurd (cc)
has-group (g ∷ gs) name alive =
    elim (is_named name g) as (λ b. IsTrue (not (is_empty (unwrap_or (option_map (λ (k : GroupState). k.members) (if b then Some g else find (is_named name) gs)) []))) → (b || has_group gs name) ≡ true) [
      | true ↦ λ _. refl
      | false ↦ λ later. has-group gs name later
    ] alive

module _ (s : State) (t : ℕ) (is : IsConsistent s) where
  -- the names of the groups
  abbrev names : List GroupName
  names = map (λ (g : GroupState). g.name) s.groups

  -- the names of the groups whose flushes are open
  abbrev open_names : List GroupName
  open_names = map (λ (f : FlushState). f.group) s.flushes

  abbrev IsThere : GroupName → Type 0
  IsThere name = is_member same_name names name ≡ true

  held_there : AllByRecursion IsThere open_names
  held_there =
      all-map (λ (f : FlushState). f.group) IsThere s.flushes
      (all-weaker (IsHeld s) (λ (f : FlushState). IsThere f.group)
      (λ f held. any-map (λ (g : GroupState). g.name) (same_name f.group) s.groups ∙ has-group s.groups f.group held.alive)
      s.flushes (all_to (IsHeld s) s.flushes is.held))

  taken_there : (g : GroupState) → taken s t ≡ Some g → IsThere g.name
  taken_there g takes =
      let P : GroupState → Type 0 = λ k. IsThere k.name in
      let own : All P s.groups = all-mapped (λ (k : GroupState). k.name) IsThere s.groups (All-is_member same_name_equiv names) in
      all-least P due_cmp g (filter (may_begin s t) s.groups) (all-filter P (may_begin s t) s.groups (all_to P s.groups own)) takes

  -- a begin that takes a group finds fewer flushes open than there are groups
  fewer_open : (g : GroupState) → taken s t ≡ Some g → length s.flushes + 1 ≤ length s.groups
  fewer_open g takes =
      let free : AllByRecursion (λ name. same_name g.name name ≡ false) open_names =
      all-map (λ (f : FlushState). f.group) (λ name. same_name g.name name ≡ false) s.flushes (taken-is s t g is.groups takes).free in
      let distinct : IsDistinct same_name (g.name ∷ open_names) =
      IsDistinct-cons same_name g.name open_names free (IsDistinct-map (λ (f : FlushState). f.group) same_name s.flushes is.flushes) in
      let few : length (g.name ∷ open_names) ≤ length names =
      length-le_from_is_member same_name_equiv (g.name ∷ open_names) names distinct
      (λ name among. of-one IsThere name (g.name ∷ open_names) (taken_there g takes, held_there) among) in
      omega (arith, few, length-map s.flushes (λ (f : FlushState). f.group), length-map s.groups (λ (g : GroupState). g.name))

never : (b : Bool) → b ≡ false → (if b then Some TooManyOpen else None) ≡ Some TooManyOpen → ⊥
never true isnt waits = absurd (cc)
never false isnt waits = absurd (cc)

and-false : (b : Bool) → (b && false) ≡ false
and-false true = refl
and-false false = refl

pub flushes_never_wait : FlushesNeverWait
flushes_never_wait config records s t is few most = by (is_full config records s 2) (taken s t) refl
  where
    by : (full : Bool) (found : Option GroupState) → taken s t ≡ found
        → (if full then Some HistoryFull else (if nat_le config.limits.flushes (length s.flushes) && opens_by config s t found then Some TooManyOpen else None)) ≡ Some TooManyOpen
        → ⊥
    by true found takes waits = absurd (cc)
    by false None takes waits = never (nat_le config.limits.flushes (length s.flushes) && false) (and-false (nat_le config.limits.flushes (length s.flushes))) waits
    by false (Some g) takes waits =
        let fewer = fewer_open s t is g takes in
        let isnt : nat_le config.limits.flushes (length s.flushes) ≡ false = grind (arith, nat_tests, few, most, fewer) in
        never (nat_le config.limits.flushes (length s.flushes) && opens_by config s t (Some g)) (ap (λ b. b && opens_by config s t (Some g)) isnt) waits
