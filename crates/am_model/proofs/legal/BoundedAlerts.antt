-- How many alerts the groups have, and which routes they are of.
use Rattle.std.proofs.Common.{◌≡◌, ℕ, suc, ◌+◌, ◌≤◌, Bool, true, false, cond, ◌||◌, Some, None, List, [], ◌∷◌, length, refl, sym, ap, ◌∙◌, subst, arith}
use Rattle.std.specs.Prelude.{find, filter, fold, sum_by, unwrap_or}
use Rattle.std.specs.List.{AllByRecursion, list_any}
use Rattle.std.specs.Option.{option_map}
use Rattle.std.proofs.lemmas.Bool.{false≢true}
use Rattle.std.proofs.lemmas.List.{length-map}
use Rattle.std.proofs.lemmas.List.Sums.{sum_by-cons}
use Rattle.am_alerts.specs.RoutingTree.{last_of, matching, or_self, routes_of}
use Rattle.am_alerts.specs.declared.labels.Label.{Label}
use Rattle.am_alerts.proofs.Positions.{Ascend, matching-ascend, routes_of-exist}
use Rattle.am_model.specs.declared.config.Config.{Config}
use Rattle.am_model.specs.declared.group.GroupName.{GroupName}
use Rattle.am_model.specs.Insert.{same_member, same_group, name_in, names_for, new_group, group_or_new, group_with, put_into_group}
use Rattle.am_model.specs.Lists.{upsert, changed_where}
use Rattle.am_model.specs.State.{MemberState, GroupState, same_name, is_named}
use Rattle.am_model.proofs.lists.Words.{all-upsert}
use Rattle.am_model.proofs.legal.ConsistentGroups.{members_of, members_of-in}
use Rattle.am_model.proofs.lists.Distinct.{all_to, all-find, all-map, find-passes}
use Rattle.am_model.proofs.states.Alike.{same_name_equiv}

-- ---- how many alerts there are

abbrev pub count_alerts : List GroupState → ℕ
count_alerts [] = 0
count_alerts (g ∷ gs) = length g.members + count_alerts gs

pub count_alerts-sum : (gs : List GroupState) → sum_by (λ g. length g.members) gs ≡ count_alerts gs
count_alerts-sum [] = refl
count_alerts-sum (g ∷ gs) = sum_by-cons (λ (g : GroupState). length g.members) g gs ∙ ap (λ n. length g.members + n) (count_alerts-sum gs)

-- groups that go take their alerts along
pub count-filter : (test : GroupState → Bool) (gs : List GroupState) → count_alerts (filter test gs) ≤ count_alerts gs
count-filter test [] = omega arith
count-filter test (g ∷ gs) =
    let rest = count-filter test gs in
    elim (test g) as (λ b. count_alerts (cond b (g ∷ filter test gs) (filter test gs)) ≤ length g.members + count_alerts gs) [
      | true ↦ omega (arith, rest)
      | false ↦ omega (arith, rest)
    ]

-- a change that adds no alerts
pub count-changed : (test : GroupState → Bool) (f : GroupState → GroupState) → ((g : GroupState) → length (f g).members ≤ length g.members) → (gs : List GroupState) → count_alerts (changed_where test f gs) ≤ count_alerts gs
count-changed test f fewer [] = omega arith
count-changed test f fewer (g ∷ gs) =
    let rest = count-changed test f fewer gs in
    let here = fewer g in
    elim (test g) as (λ b. length (cond b (f g) g).members + count_alerts (changed_where test f gs) ≤ length g.members + count_alerts gs) [
      | true ↦ omega (arith, rest, here)
      | false ↦ omega (arith, rest)
    ]

-- a filter leaves no more than there were
pub length-filter : {X : Type 0} (test : X → Bool) (xs : List X) → length (filter test xs) ≤ length xs
length-filter test [] = omega arith
length-filter test (x ∷ xs) =
    let rest = length-filter test xs in
    elim (test x) as (λ b. length (cond b (x ∷ filter test xs) (filter test xs)) ≤ length (x ∷ xs)) [
      | true ↦ omega (arith, rest)
      | false ↦ omega (arith, rest)
    ]

-- what is put in adds one at most
pub length-upsert : {X : Type 0} (like : X → X → Bool) (x : X) (xs : List X) → length (upsert like x xs) ≤ length xs + 1
length-upsert like x [] = omega arith
length-upsert like x (y ∷ ys) =
    let rest = length-upsert like x ys in
    elim (like x y) as (λ b. length (cond b (x ∷ ys) (y ∷ upsert like x ys)) ≤ length (y ∷ ys) + 1) [
      | true ↦ omega arith
      | false ↦ omega (arith, rest)
    ]

-- and none where it takes the place of another
pub length-put_known : {X : Type 0} (like : X → X → Bool) (x : X) (xs : List X) → list_any (like x) xs ≡ true → length (upsert like x xs) ≡ length xs
length-put_known like x [] e = absurd (false≢true e)
length-put_known like x (y ∷ ys) e =
    elim (like x y) as (λ b. (b || list_any (like x) ys) ≡ true → length (cond b (x ∷ ys) (y ∷ upsert like x ys)) ≡ length (y ∷ ys)) [
      | true ↦ λ _. refl
      | false ↦ λ rest. ap suc (length-put_known like x ys rest)
    ] e

-- a group takes the place of the one of its name, with one alert more
count-upsert : (name : GroupName) (g : GroupState) (gs : List GroupState) → ((k : GroupState) → same_group g k ≡ is_named name k) → length g.members ≤ length (members_of gs name) + 1 → count_alerts (upsert same_group g gs) ≤ count_alerts gs + 1
count-upsert name g [] same more = omega (arith, more)
count-upsert name g (k ∷ gs) same more = by (same_group g k) (is_named name k) (same k) (count-upsert name g gs same) more
  where
    by : (b c : Bool) → b ≡ c → (length g.members ≤ length (members_of gs name) + 1 → count_alerts (upsert same_group g gs) ≤ count_alerts gs + 1) → length g.members ≤ length (cond c k.members (members_of gs name)) + 1 → count_alerts (cond b (g ∷ gs) (k ∷ upsert same_group g gs)) ≤ length k.members + count_alerts gs + 1
    by true true e rest h = omega (arith, h)
    by true false e rest h = absurd (cc)
    by false true e rest h = absurd (cc)
    by false false e rest h = let less = rest h in omega (arith, less)

module _ (config : Config) (t : ℕ) (m : MemberState) where
  -- the group of a name, made if it is missing, has the alerts of that name, and it is of that name
  pub members-or_new : (gs : List GroupState) (name : GroupName) → (group_or_new config t gs name).members ≡ members_of gs name
  members-or_new gs name =
      (elim (find (is_named name) gs) as (λ o. (unwrap_or o (new_group config t name)).members ≡ unwrap_or (option_map (λ g. g.members) o) []) [
        | None ↦ refl
        | Some g ↦ refl
      ]) ∙ members_of-in gs name

  pub named-or_new : (gs : List GroupState) (name : GroupName) → same_name name (group_or_new config t gs name).name ≡ true
  named-or_new gs name =
      elim (find (is_named name) gs) as (λ o. find (is_named name) gs ≡ o → same_name name (unwrap_or o (new_group config t name)).name ≡ true) [
        | None ↦ λ e. same_name_equiv.refl name
        | Some g ↦ λ e. find-passes (is_named name) g gs e
      ] refl

  count-into : (gs : List GroupState) (name : GroupName) → count_alerts (put_into_group config t m gs name) ≤ count_alerts gs + 1
  count-into gs name =
      let g = group_or_new config t gs name in
      let longer : length (upsert same_member m g.members) ≤ length g.members + 1 = length-upsert same_member m g.members in
      count-upsert name (group_with config t m g) gs
      (λ k. sym (same_name_equiv.congr name g.name k.name (named-or_new gs name)))
      (subst (λ ms. length (upsert same_member m g.members) ≤ length ms + 1) (members-or_new gs name) longer)

  pub count-each : (names : List GroupName) (gs : List GroupState) → count_alerts (fold (put_into_group config t m) gs names) ≤ count_alerts gs + length names
  count-each [] gs = omega arith
  count-each (name ∷ names) gs =
      let here = count-into gs name in
      let rest = count-each names (put_into_group config t m gs name) in
      omega (arith, here, rest)

  -- ---- which routes the groups are of

  routed-or_new : (most : ℕ) (gs : List GroupState) (name : GroupName) → name.route ≤ most → AllByRecursion (λ g. g.name.route ≤ most) gs → (group_or_new config t gs name).name.route ≤ most
  routed-or_new most gs name least all =
      elim (find (is_named name) gs) as (λ o. find (is_named name) gs ≡ o → (unwrap_or o (new_group config t name)).name.route ≤ most) [
        | None ↦ λ e. least
        | Some g ↦ λ e. all-find (λ (g : GroupState). g.name.route ≤ most) (is_named name) g gs all e
      ] refl

  pub routed-each : (most : ℕ) (names : List GroupName) (gs : List GroupState) → AllByRecursion (λ n. n.route ≤ most) names → AllByRecursion (λ g. g.name.route ≤ most) gs → AllByRecursion (λ g. g.name.route ≤ most) (fold (put_into_group config t m) gs names)
  routed-each most [] gs routed all = all
  routed-each most (name ∷ names) gs routed all =
      let g = group_or_new config t gs name in
      routed-each most names (put_into_group config t m gs name) routed.1
      (all-upsert same_group (group_with config t m g) (λ g. g.name.route ≤ most) gs (routed-or_new most gs name routed.0 all) all)

-- ---- the groups of an alert

pub routed-names : (config : Config) (labels : List Label) → AllByRecursion (λ n. n.route ≤ last_of config.routes) (names_for config labels)
routed-names config labels =
    let P : GroupName → Type 0 = λ n. n.route ≤ last_of config.routes in
    let Q : ℕ → Type 0 = λ p. p ≤ last_of config.routes in
    all-map (name_in config labels) P (routes_of config.routes labels) (all_to Q (routes_of config.routes labels) (routes_of-exist config.routes labels))

-- numbers that ascend are no more than lie between their bounds
length-ascend : (low high : ℕ) (ps : List ℕ) → Ascend low high ps → low + length ps ≤ high
length-ascend low high [] a = omega (arith, a)
length-ascend low high (p ∷ ps) a = omega (arith, a.0, length-ascend (p + 1) high ps a.1)

pub length-names : (config : Config) (labels : List Label) → length (names_for config labels) ≤ last_of config.routes + 1
length-names config labels =
    let found : List ℕ = matching 1 config.routes.below labels in
    let few = by found (length-ascend 1 (1 + last_of config.routes) found (matching-ascend 1 config.routes.below labels)) in
    omega (arith, few, length-map (routes_of config.routes labels) (name_in config labels))
  where
    by : (ps : List ℕ) → 1 + length ps ≤ 1 + last_of config.routes → length (or_self 0 ps) ≤ last_of config.routes + 1
    by [] h = omega arith
    by (p ∷ ps) h = omega (arith, h)
