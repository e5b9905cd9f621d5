-- Routes that were read, one more at a time.
use Rattle.std.proofs.Common.{◌≡◌, ◌+◌, ◌<◌, ◌≤◌, ◌++◌, ◌∷◌, ◌∙◌, ℕ, List, [], Option, Some, MatchOption, length, take, get_or, ap, subst, sym}
use Rattle.std.proofs.lemmas.List.{take_all, take_more}
use Rattle.std.specs.Prelude.{IsSomeAnd}
use Rattle.serde_json.specs.Data.{Data, Items, Members}
use Rattle.serde_json.specs.Find.{as_array, as_object}
use Rattle.serde_json.specs.View.{items_view, view}
use Rattle.serde_json.specs.declared.value.Value.{Value}
use Rattle.am_alerts.proofs.Forests.{branch_out}
use Rattle.am_alerts.specs.Forest.{Forest, bare}
use Rattle.am_alerts.specs.Nested.{Branch, branch, forest}
use Rattle.am_alerts.specs.declared.tree.Node.{Node}
use Rattle.am_alerts.specs.declared.tree.RouteSpec.{RouteSpec}
use Rattle.am_json.specs.Decoding.{IsObject}
use Rattle.am_json.specs.declared.faults.Fault.{Fault}
use Rattle.am_config.specs.Collects.{Collects}
use Rattle.am_config.specs.Routes.{AreRoutes, HasBelow, HasNode, HasRoute, IsForest}
use Rattle.am_config.specs.Times.{TimesData}

-- the fields are this route's, and those below it are these
abbrev HasBranch : TimesData → Members → Branch → Type 0
HasBranch times members b = HasRoute times members b.rule × HasBelow times members b.below

node_more : (times : TimesData) (values : List Value) (nodes : List Node) (value : Value) (n : Node) → AreRoutes times (items_view values) (forest nodes)
    → IsObject (HasNode times) (view value) n → AreRoutes times (items_view (values ++ value ∷ [])) (forest (nodes ++ n ∷ []))
node_more times [] [] value n so_far more = (subst (λ (b : Branch). IsObject (HasBranch times) (view value) b) (sym (branch_out n)) more, tt)
node_more times [] (m ∷ ms) value n so_far more = absurd so_far
node_more times (v ∷ vs) [] value n so_far more = absurd so_far
node_more times (v ∷ vs) (m ∷ ms) value n so_far more = (so_far.0, node_more times vs ms value n so_far.1 more)

-- one more route, with those below it
pub routes_more : (times : TimesData) (values : List Value) (i : ℕ) (value : Value) (n : Node) (xs ys : List Node) (initial before after : List Fault)
    → i < length values → value ≡ get_or values i value
    → Collects initial before (AreRoutes times (items_view (take i values)) (forest xs))
    → Collects before after (IsObject (HasNode times) (view value) n) → ys ≡ xs ++ n ∷ []
    → Collects initial after (AreRoutes times (items_view (take (i + 1) values)) (forest ys))
routes_more times values i value n xs ys initial before after here is so_far more pushed =
    λ none.
    let read = more none in
    let done = so_far read.0 in
    let taken : take (i + 1) values ≡ take i values ++ value ∷ [] =
    take_more values i value here ∙ ap (λ (v : Value). take i values ++ v ∷ []) (sym is) in (
      done.0,
      subst (λ (zs : List Node). AreRoutes times (items_view (take (i + 1) values)) (forest zs)) (sym pushed)
          (subst (λ (vs : List Value). AreRoutes times (items_view vs) (forest (xs ++ n ∷ []))) (sym taken)
          (node_more times (take i values) xs value n done.1 read.1)),
    )

-- a member that says an array of routes, which was read to its end
pub said_routes : (times : TimesData) (said_is : Option Data) (value : Data) (values : List Value) (i : ℕ) (nodes : List Node) (initial after : List Fault)
    → Some value ≡ said_is → as_array value ≡ Some (items_view values) → length values ≤ i
    → Collects initial after (AreRoutes times (items_view (take i values)) (forest nodes))
    → Collects initial after (MatchOption said_is (forest nodes ≡ bare) (λ v. IsForest times v (forest nodes)))
said_routes times said_is value values i nodes initial after is items past so_far =
    λ none.
    let done = so_far none in
    let routes : AreRoutes times (items_view values) (forest nodes) =
    subst (λ (vs : List Value). AreRoutes times (items_view vs) (forest nodes)) (take_all i values past) done.1 in (
      done.0,
      subst (λ (o : Option Data). MatchOption o (forest nodes ≡ bare) (λ v. IsForest times v (forest nodes))) is
          (subst (λ (o : Option Items). IsSomeAnd o (λ items. AreRoutes times items (forest nodes))) (sym items) routes),
    )
