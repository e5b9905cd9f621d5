-- The rows that are carried over: each has an integration of the new configuration and an alert that goes to its group, each can be loaded
-- where the row might, and under the same configuration a row is its own.
use Rattle.std.proofs.Common.{◌≡◌, ℕ, zero, suc, ◌+◌, ◌-◌, ◌<◌, ◌≤◌, Bool, true, false, cond, ◌&&◌, ◌||◌, nat_le, nat_lt, Option, Some, None, List, [], ◌∷◌, ◌++◌, length, map, fold, take, refl, sym, ap, ◌∙◌, subst, arith, if◌then◌else◌}
use Rattle.std.specs.Prelude.{◌==◌, count_by}
use Rattle.std.specs.List.{AllByRecursion, list_any}
use Rattle.std.specs.Str.{bytes_eq}
use Rattle.std.proofs.lemmas.Bool.{false≢true, and_from, and_parts, eqb-true, or_left, or_right, le-leb, lt-ltb, ltb-true, ne_eqb}
use Rattle.std.proofs.lemmas.Cmp.{nat_eq_equiv}
use Rattle.std.proofs.lemmas.List.Folds.{list_any-append}
use Rattle.std.proofs.lemmas.List.Sums.{sum_by-cons}
use Rattle.std.proofs.lemmas.Slice.Eq.{bytes_eq-Decides}
use Rattle.am_alerts.specs.Labels.{same_label_set, label_set_cmp}
use Rattle.am_alerts.specs.Route.{group_labels_of}
use Rattle.am_alerts.specs.RoutingTree.{route_at, routes_of, last_of}
use Rattle.am_alerts.specs.declared.labels.Label.{Label}
use Rattle.am_alerts.proofs.Positions.{routes_of-exist}
use Rattle.am_nflog.specs.Members.{is_ascending}
use Rattle.am_model.specs.declared.config.Config.{Config}
use Rattle.am_model.specs.declared.config.Integration.{Integration}
use Rattle.am_model.specs.declared.group.GroupName.{GroupName}
use Rattle.am_model.specs.declared.views.RowView.{RowView}
use Rattle.am_model.specs.Carry.{index_at, position_of, moved_to, inherits, with_position, with_successor, with_successors, successors, own_or_all, moved, rows_at, carried, is_led_to, IsTakenOver, CarriedRowsFit, CarriedRowsMayBeLoaded, RestartsCarryRows}
use Rattle.am_model.specs.Config.{kind_at}
use Rattle.am_model.specs.Configured.{route_of, integrations_named}
use Rattle.am_model.specs.Insert.{name_in, names_for}
use Rattle.am_model.specs.Load.{has_integration, is_ordered, may_load}
use Rattle.am_model.specs.State.{same_name}
use Rattle.am_model.proofs.lists.Distinct.{all_from, all_to, all-both, all-weaker}
use Rattle.am_model.proofs.lists.Sets.{any-map}

-- ---- positions of integrations

-- one that is found is there
found-within : (kind : List ℕ) (index n : ℕ) (xs : List Integration) (q : ℕ) → position_of kind index n xs ≡ Some q → q < n + length xs
found-within kind index n [] q e = absurd (cc)
found-within kind index n (x ∷ xs) q e =
    elim (bytes_eq x.kind kind) as (λ b. cond b (cond (index == 0) (Some n) (position_of kind (index - 1) (n + 1) xs)) (position_of kind index (n + 1) xs) ≡ Some q → q < n + length (x ∷ xs)) [
      | true ↦ λ e.
          elim (index == 0) as (λ c. cond c (Some n) (position_of kind (index - 1) (n + 1) xs) ≡ Some q → q < n + length (x ∷ xs)) [
            | true ↦ λ e. let same : n ≡ q = cc in omega (arith, same)
            | false ↦ λ e. omega (arith, found-within kind (index - 1) (n + 1) xs q e)
          ] e
      | false ↦ λ e. omega (arith, found-within kind index (n + 1) xs q e)
    ] e

-- the one at a position is found by its index, among those of its kind
own-found : (kind : List ℕ) (xs : List Integration) (p n : ℕ) → p < length xs → bytes_eq (kind_at xs p) kind ≡ true
    → position_of kind (count_by (λ i. bytes_eq i.kind kind) (take p xs)) n xs ≡ Some (n + p)
own-found kind [] p n l e = absurd (omega arith)
own-found kind (x ∷ xs) zero n l e =
    ap (λ b. cond b (Some n) (position_of kind 0 (n + 1) xs)) e ∙ ap Some (omega arith)
own-found kind (x ∷ xs) (suc p) n l e =
    let rest = count_by (λ (i : Integration). bytes_eq i.kind kind) (take p xs) in
    let next : position_of kind rest (n + 1) xs ≡ Some (n + suc p) = own-found kind xs p (n + 1) (omega arith) e ∙ ap Some (omega arith) in
    ap (λ c. position_of kind c n (x ∷ xs)) (sum_by-cons (λ (i : Integration). cond (bytes_eq i.kind kind) 1 0) x (take p xs))
    ∙ by (bytes_eq x.kind kind) rest next
  where
    by : (b : Bool) (rest : ℕ) → position_of kind rest (n + 1) xs ≡ Some (n + suc p)
        → cond b (cond ((cond b 1 0 + rest) == 0) (Some n) (position_of kind ((cond b 1 0 + rest) - 1) (n + 1) xs)) (position_of kind (cond b 1 0 + rest) (n + 1) xs) ≡ Some (n + suc p)
    by true rest next =
        ap (λ c. cond c (Some n) (position_of kind ((1 + rest) - 1) (n + 1) xs)) (ne_eqb (1 + rest) 0 (λ e. omega (arith, e)))
        ∙ ap (λ m. position_of kind m (n + 1) xs) (less rest) ∙ next
      where
        less : (m : ℕ) → (1 + m) - 1 ≡ m
        less m = omega arith
    by false rest next = ap (λ m. position_of kind m (n + 1) xs) (none rest) ∙ next
      where
        none : (m : ℕ) → 0 + m ≡ m
        none m = omega arith

none-more : (p : ℕ) → 0 + p ≡ p
none-more p = omega arith

pub own-index : (xs : List Integration) (p : ℕ) → p < length xs → moved_to xs p xs ≡ Some p
own-index xs p l =
    ap (λ b. if b then position_of (kind_at xs p) (index_at xs p) 0 xs else None) (lt-ltb p (length xs) l)
    ∙ own-found (kind_at xs p) xs p 0 l ((bytes_eq-Decides (kind_at xs p) (kind_at xs p)).1 refl)
    ∙ ap Some (none-more p)

pub moved-within : (olds news : List Integration) (p q : ℕ) → moved_to olds p news ≡ Some q → q < length news
moved-within olds news p q e =
    elim (nat_lt p (length olds)) as (λ b. (if b then position_of (kind_at olds p) (index_at olds p) 0 news else None) ≡ Some q → q < length news) [
      | true ↦ λ e. omega (arith, found-within (kind_at olds p) (index_at olds p) 0 news q e)
      | false ↦ λ e. absurd (cc)
    ] e

-- ---- routes that inherit

module _ (config : Config) (receiver : List ℕ) (group : List Label) where
  -- what holds of each route of a label set that inherits holds of each heir
  module _ (P : ℕ → Type 0) where
    each-position : (ps : List ℕ) (p : ℕ) → P p → AllByRecursion P ps → AllByRecursion P (with_position ps p)
    each-position ps p h all =
        elim (list_any (λ q. q == p) ps) as (λ b. AllByRecursion P (if b then ps else ps ++ p ∷ [])) [ true ↦ all | false ↦ pushed ps all ]
      where
        pushed : (qs : List ℕ) → AllByRecursion P qs → AllByRecursion P (qs ++ p ∷ [])
        pushed [] all = (h, tt)
        pushed (q ∷ qs) all = (all.0, pushed qs all.1)

    each-successor : (labels : List Label) (ps : List ℕ) (p : ℕ) → (inherits config receiver group labels p ≡ true → P p) → AllByRecursion P ps → AllByRecursion P (with_successor config receiver group labels ps p)
    each-successor labels ps p h all =
        elim (inherits config receiver group labels p) as (λ b. (b ≡ true → P p) → AllByRecursion P (if b then with_position ps p else ps)) [
          | true ↦ λ h. each-position ps p (h refl) all
          | false ↦ λ h. all
        ] h

    each-route : (labels : List Label) (routes ps : List ℕ) → AllByRecursion (λ p. inherits config receiver group labels p ≡ true → P p) routes → AllByRecursion P ps
        → AllByRecursion P (fold (with_successor config receiver group labels) ps routes)
    each-route labels [] ps h all = all
    each-route labels (p ∷ routes) ps h all = each-route labels routes (with_successor config receiver group labels ps p) h.1 (each-successor labels ps p h.0 all)

    each-set : (sets : List (List Label)) → AllByRecursion (λ labels. AllByRecursion (λ p. inherits config receiver group labels p ≡ true → P p) (routes_of config.routes labels)) sets
        → (ps : List ℕ) → AllByRecursion P ps → AllByRecursion P (fold (with_successors config receiver group) ps sets)
    each-set [] h ps all = all
    each-set (labels ∷ sets) h ps all = each-set sets h.1 (with_successors config receiver group ps labels) (each-route labels (routes_of config.routes labels) ps h.0 all)

  -- a position that is among them stays
  module _ (p : ℕ) where
    abbrev is_in : List ℕ → Bool
    is_in ps = list_any (λ q. q == p) ps

    stays-position : (ps : List ℕ) (q : ℕ) → is_in ps ≡ true → is_in (with_position ps q) ≡ true
    stays-position ps q h =
        elim (list_any (λ r. r == q) ps) as (λ b. is_in (if b then ps else ps ++ q ∷ []) ≡ true) [
          | true ↦ h
          | false ↦ list_any-append (λ r. r == p) ps (q ∷ []) ∙ or_left (is_in ps) (is_in (q ∷ [])) h
        ]

    own-position : (ps : List ℕ) → is_in (with_position ps p) ≡ true
    own-position ps =
        elim (is_in ps) as (λ b. is_in ps ≡ b → is_in (if b then ps else ps ++ p ∷ []) ≡ true) [
          | true ↦ λ e. e
          | false ↦ λ e. list_any-append (λ r. r == p) ps (p ∷ []) ∙ or_right (is_in ps) (is_in (p ∷ [])) (or_left (p == p) false (nat_eq_equiv.refl p))
        ] refl

    stays-successor : (labels : List Label) (ps : List ℕ) (q : ℕ) → is_in ps ≡ true → is_in (with_successor config receiver group labels ps q) ≡ true
    stays-successor labels ps q h =
        elim (inherits config receiver group labels q) as (λ b. is_in (if b then with_position ps q else ps) ≡ true) [ true ↦ stays-position ps q h | false ↦ h ]

    stays-routes : (labels : List Label) (routes ps : List ℕ) → is_in ps ≡ true → is_in (fold (with_successor config receiver group labels) ps routes) ≡ true
    stays-routes labels [] ps h = h
    stays-routes labels (q ∷ routes) ps h = stays-routes labels routes (with_successor config receiver group labels ps q) (stays-successor labels ps q h)

    stays-sets : (sets : List (List Label)) (ps : List ℕ) → is_in ps ≡ true → is_in (fold (with_successors config receiver group) ps sets) ≡ true
    stays-sets [] ps h = h
    stays-sets (labels ∷ sets) ps h = stays-sets sets (with_successors config receiver group ps labels) (stays-routes labels (routes_of config.routes labels) ps h)

    -- a route that inherits comes among them
    comes-routes : (labels : List Label) → inherits config receiver group labels p ≡ true → (routes ps : List ℕ) → list_any (λ q. p == q) routes ≡ true → is_in (fold (with_successor config receiver group labels) ps routes) ≡ true
    comes-routes labels does [] ps h = absurd (false≢true h)
    comes-routes labels does (q ∷ routes) ps h =
        elim (p == q) as (λ b. (p == q) ≡ b → (b || list_any (λ r. p == r) routes) ≡ true → is_in (fold (with_successor config receiver group labels) (with_successor config receiver group labels ps q) routes) ≡ true) [
          | true ↦ λ e h.
              stays-routes labels routes (with_successor config receiver group labels ps q)
              (subst (λ r. is_in (with_successor config receiver group labels ps r) ≡ true) (eqb-true p q e)
              (ap (λ b. is_in (if b then with_position ps p else ps)) does ∙ own-position ps))
          | false ↦ λ e h. comes-routes labels does routes (with_successor config receiver group labels ps q) h
        ] refl h

-- ---- the routes by which a label set comes to a group

-- the group's own route inherits
leads-inherits : (config : Config) (name : GroupName) (labels : List Label) (routes : List ℕ) → list_any (λ r. same_name name (name_in config labels r)) routes ≡ true
    → (inherits config (route_of config name).receiver name.labels labels name.route ≡ true) × (list_any (λ q. name.route == q) routes ≡ true)
leads-inherits config name labels [] h = absurd (false≢true h)
leads-inherits config name labels (r ∷ routes) h =
    elim (same_name name (name_in config labels r)) as (λ b. same_name name (name_in config labels r) ≡ b → (b || list_any (λ q. same_name name (name_in config labels q)) routes) ≡ true
    → (inherits config (route_of config name).receiver name.labels labels name.route ≡ true) × (list_any (λ q. name.route == q) (r ∷ routes) ≡ true)) [
      | true ↦ λ e _.
          let own = and_parts (name.route == r) (same_label_set name.labels (group_labels_of (route_at config.routes r) labels)) e in
          let same : r ≡ name.route = sym (eqb-true name.route r own.0) in
          let receiver = (route_of config name).receiver in (
            ap (λ b. b && same_label_set name.labels (group_labels_of (route_at config.routes name.route) labels)) ((bytes_eq-Decides receiver receiver).1 refl)
                ∙ subst (λ q. same_label_set name.labels (group_labels_of (route_at config.routes q) labels) ≡ true) same own.1,
            or_left (name.route == r) (list_any (λ q. name.route == q) routes) own.0,
          )
      | false ↦ λ e later.
          let rest = leads-inherits config name labels routes later in (rest.0, or_right (name.route == r) (list_any (λ q. name.route == q) routes) rest.1)
    ] refl h

comes-sets : (config : Config) (name : GroupName) (sets : List (List Label)) (ps : List ℕ) → list_any (λ labels. list_any (same_name name) (names_for config labels)) sets ≡ true
    → list_any (λ q. q == name.route) (fold (with_successors config (route_of config name).receiver name.labels) ps sets) ≡ true
comes-sets config name [] ps h = absurd (false≢true h)
comes-sets config name (labels ∷ sets) ps h =
    let receiver = (route_of config name).receiver in
    elim (list_any (same_name name) (names_for config labels)) as (λ b. list_any (same_name name) (names_for config labels) ≡ b → (b || list_any (λ ls. list_any (same_name name) (names_for config ls)) sets) ≡ true
    → list_any (λ q. q == name.route) (fold (with_successors config receiver name.labels) (with_successors config receiver name.labels ps labels) sets) ≡ true) [
      | true ↦ λ e _.
          let led = leads-inherits config name labels (routes_of config.routes labels) (sym (any-map (same_name name) (name_in config labels) (routes_of config.routes labels)) ∙ e) in
          stays-sets config receiver name.labels name.route sets (with_successors config receiver name.labels ps labels)
          (comes-routes config receiver name.labels name.route labels led.0 (routes_of config.routes labels) ps led.1)
      | false ↦ λ e later. comes-sets config name sets (with_successors config receiver name.labels ps labels) later
    ] refl h

-- ---- a restart

module _ (config : Config) (row : RowView) (led : is_led_to config row ≡ true) where
  abbrev leads : List Label → Bool
  leads labels = list_any (same_name row.group) (names_for config labels)

  abbrev its_receiver : List ℕ
  its_receiver = (route_of config row.group).receiver

  abbrev first_successors : List ℕ
  first_successors = fold (with_successors config its_receiver row.group.labels) [] row.firing

  own-successor : (b : Bool) → list_any leads row.firing ≡ b → list_any (λ q. q == row.group.route) (successors config its_receiver row) ≡ true
  own-successor true e = stays-sets config its_receiver row.group.labels row.group.route row.resolved first_successors (comes-sets config row.group row.firing [] e)
  own-successor false e =
      comes-sets config row.group row.resolved first_successors
      (ap (λ b. b || list_any leads row.resolved) (sym e) ∙ sym (list_any-append leads row.firing row.resolved) ∙ led)

pub restarts_carry_rows : RestartsCarryRows
restarts_carry_rows config row there led =
    let receiver = (route_of config row.group).receiver in
    let integrations = integrations_named receiver config.receivers in
    let within = ltb-true row.integration (length integrations) (and_parts (nat_le row.group.route (last_of config.routes)) (nat_lt row.integration (length integrations)) there).1 in
    let all = successors config receiver row in
    let own : own_or_all row.group.route all ≡ row.group.route ∷ [] =
    ap (λ b. if b then row.group.route ∷ [] else all) (own-successor config row led (list_any (leads config row led) row.firing) refl) in
    (λ i. rows_at row (own-index integrations row.integration within i) (own i))

-- ---- each row that is carried

-- a test that an element passes, some element passes
any-own : {X : Type 0} (xs : List X) → AllByRecursion (λ x. (test : X → Bool) → test x ≡ true → list_any test xs ≡ true) xs
any-own [] = tt
any-own {X} (x ∷ xs) = (
  (λ test h. or_left (test x) (list_any test xs) h),
  all-weaker (λ (y : X). (test : X → Bool) → test y ≡ true → list_any test xs ≡ true) (λ y. (test : X → Bool) → test y ≡ true → list_any test (x ∷ xs) ≡ true)
      (λ y later test h. or_right (test x) (list_any test xs) (later test h)) xs (any-own xs),
)

module _ (config : Config) (receiver : List ℕ) (row : RowView) where
  -- the row's group of the route at a position, and whether a label set goes to it
  abbrev group_at : ℕ → GroupName
  group_at p = record { route = p; labels = row.group.labels }

  abbrev goes_to_group_at : ℕ → List Label → Bool
  goes_to_group_at p labels = list_any (same_name (group_at p)) (names_for config labels)

  -- a route that inherits is one of the configuration, with the row's receiver, and an alert of the row goes to the row's group of it
  record IsSuccessor (p : ℕ) : Type 0 where
    pub there : p ≤ last_of config.routes
    pub same : (route_at config.routes p).receiver ≡ receiver
    pub led : list_any (goes_to_group_at p) (row.firing ++ row.resolved) ≡ true

  -- by a label set of the row each of its routes that inherits is so
  successors-by : (labels : List Label) → ((test : List Label → Bool) → test labels ≡ true → list_any test (row.firing ++ row.resolved) ≡ true)
      → AllByRecursion (λ p. inherits config receiver row.group.labels labels p ≡ true → IsSuccessor p) (routes_of config.routes labels)
  successors-by labels own =
      let routes = routes_of config.routes labels in
      all-both (λ p. p ≤ last_of config.routes) (λ p. (test : ℕ → Bool) → test p ≡ true → list_any test routes ≡ true) (λ p. inherits config receiver row.group.labels labels p ≡ true → IsSuccessor p)
      (λ p there among does.
      let same_group = same_label_set row.group.labels (group_labels_of (route_at config.routes p) labels) in
      let is = and_parts (bytes_eq (route_at config.routes p).receiver receiver) same_group does in
      record {
        there = there;
        same = (bytes_eq-Decides (route_at config.routes p).receiver receiver).0 is.0;
        led =
            own (goes_to_group_at p)
            (any-map (same_name (group_at p)) (name_in config labels) routes
            ∙ among (λ r. same_name (group_at p) (name_in config labels r)) (and_from (p == p) same_group (nat_eq_equiv.refl p) is.1));
      })
      routes (all_to (λ (p : ℕ). p ≤ last_of config.routes) routes (routes_of-exist config.routes labels)) (any-own routes)

  successors-by-each : (sets : List (List Label)) → ((test : List Label → Bool) → list_any test sets ≡ true → list_any test (row.firing ++ row.resolved) ≡ true)
      → AllByRecursion (λ labels. AllByRecursion (λ p. inherits config receiver row.group.labels labels p ≡ true → IsSuccessor p) (routes_of config.routes labels)) sets
  successors-by-each sets within =
      all-weaker (λ labels. (test : List Label → Bool) → test labels ≡ true → list_any test sets ≡ true)
      (λ labels. AllByRecursion (λ p. inherits config receiver row.group.labels labels p ≡ true → IsSuccessor p) (routes_of config.routes labels))
      (λ labels own. successors-by labels (λ test h. within test (own test h))) sets (any-own sets)

  each-successor-is : AllByRecursion IsSuccessor (successors config receiver row)
  each-successor-is =
      let group = row.group.labels in
      each-set config receiver group IsSuccessor row.resolved
      (successors-by-each row.resolved (λ test h. list_any-append test row.firing row.resolved ∙ or_right (list_any test row.firing) (list_any test row.resolved) h))
      (fold (with_successors config receiver group) [] row.firing)
      (each-set config receiver group IsSuccessor row.firing
      (successors-by-each row.firing (λ test h. list_any-append test row.firing row.resolved ∙ or_left (list_any test row.firing) (list_any test row.resolved) h)) [] tt)

moved-there : (config : Config) (receiver : List ℕ) (row : RowView) (q p : ℕ) → q < length (integrations_named receiver config.receivers) → IsSuccessor config receiver row p → IsTakenOver config row (moved row q p)
moved-there config receiver row q p within successor =
    record {
      there =
          ap (λ b. b && nat_lt q (length (integrations_named (route_at config.routes p).receiver config.receivers))) (le-leb p (last_of config.routes) successor.there)
          ∙ ap (λ r. nat_lt q (length (integrations_named r config.receivers))) successor.same
          ∙ lt-ltb q (length (integrations_named receiver config.receivers)) within;
      led = successor.led;
      labels = refl;
      time = refl;
      expiry = refl;
      firing = refl;
      resolved = refl;
    }

each-moved : (config : Config) (receiver : List ℕ) (row : RowView) (q : ℕ) → q < length (integrations_named receiver config.receivers) → (ps : List ℕ) → AllByRecursion (IsSuccessor config receiver row) ps
    → AllByRecursion (IsTakenOver config row) (map (moved row q) ps)
each-moved config receiver row q within [] all = tt
each-moved config receiver row q within (p ∷ ps) all = (moved-there config receiver row q p within all.0, each-moved config receiver row q within ps all.1)

-- what holds of each holds of the one that is among them
among-holds : (P : ℕ → Type 0) (p : ℕ) (ps : List ℕ) → list_any (λ q. q == p) ps ≡ true → AllByRecursion P ps → P p
among-holds P p [] h all = absurd (false≢true h)
among-holds P p (q ∷ ps) h all =
    elim (q == p) as (λ b. (q == p) ≡ b → (b || list_any (λ r. r == p) ps) ≡ true → P p) [
      | true ↦ λ e _. subst P (eqb-true q p e) all.0
      | false ↦ λ e later. among-holds P p ps later all.1
    ] refl h

each-taker : (P : ℕ → Type 0) (own : ℕ) (ps : List ℕ) → AllByRecursion P ps → AllByRecursion P (own_or_all own ps)
each-taker P own ps all =
    elim (list_any (λ q. q == own) ps) as (λ b. list_any (λ q. q == own) ps ≡ b → AllByRecursion P (if b then own ∷ [] else ps)) [
      | true ↦ λ e. (among-holds P own ps e all, tt)
      | false ↦ λ e. all
    ] refl

fit-at : (new : Config) (receiver : List ℕ) (row : RowView) (olds : List Integration) (o : Option ℕ) → moved_to olds row.integration (integrations_named receiver new.receivers) ≡ o
    → AllByRecursion (IsTakenOver new row) (rows_at row o (own_or_all row.group.route (successors new receiver row)))
fit-at new receiver row olds None e = tt
fit-at new receiver row olds (Some q) e =
    each-moved new receiver row q (moved-within olds (integrations_named receiver new.receivers) row.integration q e) (own_or_all row.group.route (successors new receiver row))
    (each-taker (IsSuccessor new receiver row) row.group.route (successors new receiver row) (each-successor-is new receiver row))

pub carried_rows_fit : CarriedRowsFit
carried_rows_fit old new row =
    let receiver = (route_of old row.group).receiver in
    let olds = integrations_named receiver old.receivers in
    all_from (IsTakenOver new row) (carried old new row) (fit-at new receiver row olds (moved_to olds row.integration (integrations_named receiver new.receivers)) refl)

-- ---- where the row can be loaded

taken-loads : (old new : Config) (t : ℕ) (row taken : RowView) → may_load old t row ≡ true → IsTakenOver new row taken → may_load new t taken ≡ true
taken-loads old new t row taken may is =
    let parts = and_parts (has_integration old row && is_ordered row) (nat_le row.time t) may in
    let ordered = (and_parts (has_integration old row) (is_ordered row) parts.0).1 in
    and_from (has_integration new taken && is_ordered taken) (nat_le taken.time t)
    (and_from (has_integration new taken) (is_ordered taken) is.there ((λ i. is_ascending label_set_cmp (is.firing i) && is_ascending label_set_cmp (is.resolved i)) ∙ ordered))
    (ap (λ m. nat_le m t) is.time ∙ parts.1)

pub carried_rows_may_be_loaded : CarriedRowsMayBeLoaded
carried_rows_may_be_loaded old new t row may =
    all_from (λ taken. may_load new t taken ≡ true) (carried old new row)
    (all-weaker (IsTakenOver new row) (λ taken. may_load new t taken ≡ true) (λ taken is. taken-loads old new t row taken may is) (carried old new row)
    (all_to (IsTakenOver new row) (carried old new row) (carried_rows_fit old new row)))
