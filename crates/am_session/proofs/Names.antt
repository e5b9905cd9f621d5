-- The positions of routes, by their names.
use Rattle.std.proofs.Common.{◌≡◌, ◌∙◌, ◌<◌, ◌≤◌, ◌+◌, ℕ, Bool, true, false, List, [], ◌∷◌, Option, Some, None, ap, arith, cond, drop, get_or, length, refl, sym}
use Rattle.std.specs.Prelude.{option_map}
use Rattle.std.specs.List.{position, position_from}
use Rattle.std.specs.Option.{unwrap_or}
use Rattle.std.specs.Str.{bytes_eq}
use Rattle.std.proofs.lemmas.Iterator.Adapters.{position_from-zero}
use Rattle.std.proofs.lemmas.List.{at_drop_more}
use Rattle.std.proofs.lemmas.List.Quantifiers.{position-Some}
use Rattle.am_alerts.specs.RoutingTree.{RoutingTree, children_of, last_of}
use Rattle.am_alerts.specs.declared.route.Child.{Child}
use Rattle.am_session.specs.Row.{route_named}
use Rattle.am_session.proofs.Rows.{within_routes}

-- the position of the first route of a name, among those behind the root from a place on
abbrev pub child_from : ℕ → List Child → List ℕ → Option ℕ
child_from first children name = option_map (λ i. i + 1) (position_from (λ c. bytes_eq c.route.name name) first children)

-- a position is one behind a place, whether it is the first one's or a later one's
one_behind : (b : Bool) (at : ℕ) (later : Option ℕ) → cond b (Some (at + 1)) (option_map (λ i. i + 1) later) ≡ option_map (λ i. i + 1) (cond b (Some at) later)
one_behind true at later = refl
one_behind false at later = refl

-- one route more has its position
pub placed_more : (cs : List Child) (at n : ℕ) (c : Child) (was now : List ℕ → Option ℕ) → at < length cs → n ≡ at + 1 → c ≡ get_or cs at c
    → ((name : List ℕ) → was name ≡ child_from n (drop n cs) name)
    → ((name : List ℕ) → now name ≡ cond (bytes_eq c.route.name name) (Some (at + 1)) (was name))
    → (name : List ℕ) → now name ≡ child_from at (drop at cs) name
placed_more cs at n c was now within next here placed put name =
    put name
    ∙ ap (λ o. cond (bytes_eq c.route.name name) (Some (at + 1)) o) (placed name)
    ∙ ap (λ m. cond (bytes_eq c.route.name name) (Some (at + 1)) (child_from m (drop m cs) name)) next
    ∙ one_behind (bytes_eq c.route.name name) at (position_from (λ x. bytes_eq x.route.name name) (at + 1) (drop (at + 1) cs))
    ∙ ap (λ (x : Child). child_from at (x ∷ drop (at + 1) cs) name) here
    ∙ sym (at_drop_more (λ xs. child_from at xs name) cs at c within)

-- all have, and the root too
pub placed_all : (tree : RoutingTree) (seen : List Child) (root : List ℕ) (was now : List ℕ → Option ℕ)
    → seen ≡ children_of tree → root ≡ tree.root.name
    → ((name : List ℕ) → was name ≡ child_from 0 seen name)
    → ((name : List ℕ) → now name ≡ cond (bytes_eq root name) (Some 0) (was name))
    → (name : List ℕ) → now name ≡ route_named tree name
placed_all tree seen root was now is rooted placed put name =
    put name
    ∙ ap (λ o. cond (bytes_eq root name) (Some 0) o)
    (placed name ∙ ap (option_map (λ i. i + 1)) (sym (position_from-zero (λ (c : Child). bytes_eq c.route.name name) seen)))
    ∙ (λ i. cond (bytes_eq (rooted i) name) (Some 0) (option_map (λ k. k + 1) (position (λ c. bytes_eq c.route.name name) (is i))))

-- a place that is found is one of the list
within : (test : Child → Bool) (cs : List Child) (i : ℕ) → position test cs ≡ Some i → i < length cs
within test [] i at = absurd (cc)
within test (c ∷ cs) i at = (position-Some test (c ∷ cs) i c at).0

-- a route behind the root that is found is one of the tree
behind : (tree : RoutingTree) (test : Child → Bool) (route : ℕ) (o : Option ℕ) → position test (children_of tree) ≡ o
    → option_map (λ i. i + 1) o ≡ Some route → route ≤ last_of tree
behind tree test route None at e = absurd (cc)
behind tree test route (Some i) at e =
    omega (arith, ap (λ (p : Option ℕ). unwrap_or p 0) e, within_routes tree (children_of tree) i refl (within test (children_of tree) i at))

-- a route that is found is one of the tree
pub route_within : (tree : RoutingTree) (name : List ℕ) (route : ℕ) → route_named tree name ≡ Some route → route ≤ last_of tree
route_within tree name route =
    let test : Child → Bool = λ c. bytes_eq c.route.name name in
    elim (bytes_eq tree.root.name name) as (λ b. cond b (Some 0) (option_map (λ i. i + 1) (position test (children_of tree))) ≡ Some route → route ≤ last_of tree) [
      | true ↦ λ e. omega (arith, ap (λ (o : Option ℕ). unwrap_or o 0) e)
      | false ↦ behind tree test route (position test (children_of tree)) refl
    ]
