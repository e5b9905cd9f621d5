-- RouteKeys: the key of each route, by which Alertmanager's log knows it again (dispatch.Route.Key): the matchers of the routes from the
-- root down to it. The sort and the texts of matchers are those of labels.Matchers and labels.Matcher.
use Rattle.std.specs.Prelude.{ℕ, ◌+◌, codes, List, [], ◌∷◌, ◌++◌, slice_index_or, if◌then◌else◌}
use Rattle.std.specs.List.{join_by}
use Rattle.std.specs.Ordering.{nat_cmp, ordering_then}
use Rattle.std.specs.Str.{bytes_eq}
use Rattle.std.specs.declared.cmp.Ordering.{Ordering}
use Rattle.am_alerts.specs.Matcher.{operator_text}
use Rattle.am_alerts.specs.Forest.{Forest, bare, grow}
use Rattle.am_alerts.specs.Labels.{text_cmp}
use Rattle.am_alerts.specs.LabelText.{escaped}
use Rattle.am_alerts.specs.RoutingTree.{RoutingTree, TreeRoute}
use Rattle.am_alerts.specs.declared.matcher.MatcherParts.{MatcherParts}
use Rattle.am_alerts.specs.declared.matcher.Operator.{Operator}
use Rattle.am_alerts.specs.declared.matcher.Operator.TheVariants.{Equal, NotEqual, Like, NotLike}
use Rattle.am_model.specs.Lists.{in_order}

-- the rank of an operator among all
abbrev pub rank : Operator → ℕ
rank Equal = 0
rank NotEqual = 1
rank Like = 2
rank NotLike = 3

-- the order of matchers: by name, then by value, then by operator
abbrev pub matcher_cmp : MatcherParts → MatcherParts → Ordering
matcher_cmp a b = ordering_then (text_cmp a.name b.name) (ordering_then (text_cmp a.value b.value) (nat_cmp (rank a.op) (rank b.op)))

-- a matcher: its name, its operator, and its value, escaped, in quotes
abbrev pub matcher_text : MatcherParts → List ℕ
matcher_text m = m.name ++ operator_text m.op ++ codes "\"" ++ escaped m.value ++ codes "\""

-- matchers: `{`, the matchers in order with `,` between them, and `}`
abbrev pub matchers_text : List MatcherParts → List ℕ
matchers_text ms = codes "{" ++ join_by matcher_text (codes ",") (in_order matcher_cmp ms) ++ codes "}"

-- the key of a route right below one with this key: that key, `/` and the route's own matchers
abbrev pub key_below : List ℕ → List MatcherParts → List ℕ
key_below above ms = above ++ codes "/" ++ matchers_text ms

-- the keys of these routes, in the order of their positions, below a route with this key
abbrev pub keys_below : List ℕ → Forest TreeRoute → List (List ℕ)
keys_below above bare = []
keys_below above (grow r below after) =
    let own = key_below above r.child.matchers in
    own ∷ (keys_below own below ++ keys_below above after)

-- the key of a root, which has no matchers
abbrev pub root_key : List ℕ
root_key = codes "{}"

-- the keys of a tree's routes, by their positions
abbrev pub keys_of : RoutingTree → List (List ℕ)
keys_of tree = root_key ∷ keys_below root_key tree.below

-- the key of the route at a position, or the root's where no route has the position
abbrev pub key_at : RoutingTree → ℕ → List ℕ
key_at tree position = slice_index_or (keys_of tree) position root_key

-- the positions at which a key is among these keys, the first of which is at a position
abbrev pub positions_from : ℕ → List ℕ → List (List ℕ) → List ℕ
positions_from position key [] = []
positions_from position key (k ∷ ks) =
    if bytes_eq k key then position ∷ positions_from (position + 1) key ks else positions_from (position + 1) key ks

-- the positions of a tree's routes that have a key: several have one where their matchers and those above them are the same
abbrev pub positions_with : RoutingTree → List ℕ → List ℕ
positions_with tree key = positions_from 0 key (keys_of tree)
