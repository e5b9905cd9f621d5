-- What routing trees are kept as, where they are made.
use Rattle.std.proofs.Common.{◌≡◌, ◌+◌, ◌≤◌, Bool, true, false, ◌&&◌, List, [], ◌∷◌, length, map, None, sym, refl, ap, ◌∙◌, subst, arith}
use Rattle.std.specs.Prelude.{nat_le, max}
use Rattle.std.proofs.lemmas.Bool.{and_parts, and_from, le-leb, leb-true}
use Rattle.std.proofs.lemmas.List.{length-map}
use Rattle.am_alerts.specs.Forest.{Forest, bare, grow, count, height, listed, level}
use Rattle.am_alerts.specs.Layout.{preorder, planted_of_preorder}
use Rattle.am_alerts.specs.Nested.{nested_of, settled, settled_below}
use Rattle.am_alerts.specs.RouteLayouts.{IsPreorder, IsPlanted, paired, layout_of, tree_from}
use Rattle.am_alerts.specs.RoutingTree.{RoutingTree, TreeRoute, children_of, fault_where, is_within, last_of, level_fault, plain}
use Rattle.am_alerts.specs.RoutingTree.{tree_fault, tree_of}
use Rattle.am_alerts.specs.declared.limits.TheConstants.{MAX_CHILDREN, MAX_DEPTH, MAX_ROUTES}
use Rattle.am_alerts.specs.declared.route_layout.RouteLayout.{RouteLayout}
use Rattle.am_alerts.specs.declared.route.Child.{Child}
use Rattle.am_alerts.specs.declared.route.Route.{Route}
use Rattle.am_alerts.specs.declared.tree.RouteSpec.{RouteSpec}
use Rattle.am_alerts.proofs.Layouts.{preorder_level, length_listed, listed_level, paired_preorder, planted_level}
use Rattle.am_alerts.proofs.Trees.{fits-none}

-- ---- one level

children_plain : (cs : List Child) → map (λ r. r.child) (map plain cs) ≡ cs
children_plain [] = refl
children_plain (c ∷ cs) = ap (λ r. c ∷ r) (children_plain cs)

pub children_of_level : (root : Route) (cs : List Child) → children_of (tree_of root cs) ≡ cs
children_of_level root cs = ap (map (λ r. r.child)) (listed_level (map plain cs)) ∙ children_plain cs

pub last_of_level : (root : Route) (cs : List Child) → last_of (tree_of root cs) ≡ length cs
last_of_level root cs =
    sym (length_listed (level (map plain cs))) ∙ ap length (listed_level (map plain cs)) ∙ length-map cs plain

height_level : (rs : List TreeRoute) → height (level rs) ≤ 1
height_level [] = omega arith
height_level (r ∷ rs) = omega (arith, height_level rs)

within_level : (root : Route) (cs : List Child) → is_within MAX_CHILDREN 1 (tree_of root cs) ≡ nat_le (length cs) MAX_CHILDREN
within_level root cs =
    ap (λ b. nat_le (last_of (tree_of root cs)) MAX_CHILDREN && b) (le-leb (height (level (map plain cs))) 1 (height_level (map plain cs)))
    ∙ and_true (nat_le (last_of (tree_of root cs)) MAX_CHILDREN)
    ∙ ap (λ n. nat_le n MAX_CHILDREN) (last_of_level root cs)
  where
    and_true : (b : Bool) → (b && true) ≡ b
    and_true true = refl
    and_true false = refl

-- what is checked of a root and its children
pub level_fault_is : (root : Route) (cs : List Child)
    → level_fault (tree_of root cs) ≡ fault_where (nat_le (length cs) MAX_CHILDREN) root cs
level_fault_is root cs =
    ap (λ fits. fault_where fits root (children_of (tree_of root cs))) (within_level root cs)
    ∙ ap (λ ds. fault_where (nat_le (length cs) MAX_CHILDREN) root ds) (children_of_level root cs)

fault_none : (fits fits' : Bool) (root : Route) (cs : List Child) → fault_where fits root cs ≡ None → fits' ≡ true
    → fault_where fits' root cs ≡ None
fault_none fits fits' root cs none true' =
    ap (λ b. fault_where b root cs) (true' ∙ sym (fits-none fits root cs none)) ∙ none

-- a routing tree of one level is a routing tree
pub level_fault-tree_fault : (root : Route) (cs : List Child) → level_fault (tree_of root cs) ≡ None → tree_fault (tree_of root cs) ≡ None
level_fault-tree_fault root cs none =
    let tree = tree_of root cs in
    let few : nat_le (last_of tree) MAX_CHILDREN ≡ true =
    (and_parts (nat_le (last_of tree) MAX_CHILDREN) (nat_le (height tree.below) 1)
    (fits-none (is_within MAX_CHILDREN 1 tree) root (children_of tree) none)).0 in
    let n : last_of tree ≤ MAX_CHILDREN = leb-true (last_of tree) MAX_CHILDREN few in
    fault_none (is_within MAX_CHILDREN 1 tree) (is_within MAX_ROUTES MAX_DEPTH tree) root (children_of tree) none
    (and_from (nat_le (last_of tree) MAX_ROUTES) (nat_le (height tree.below) MAX_DEPTH)
    (le-leb (last_of tree) MAX_ROUTES (omega (arith, n)))
    (le-leb (height tree.below) MAX_DEPTH (omega (arith, height_level (map plain cs)))))

pub tree_from_level : (root : Route) (cs : List Child) → tree_from root (paired cs []) ≡ tree_of root cs
tree_from_level root cs = ap (λ f. let t : RoutingTree = record { root = root; below = f } in t) (planted_level cs)

pub is_planted_level : (root : Route) (cs : List Child) → fault_where (nat_le (length cs) MAX_CHILDREN) root cs ≡ None
    → IsPlanted root (paired cs [])
is_planted_level root cs none = (
  ap preorder (planted_level cs) ∙ preorder_level cs,
  ap tree_fault (tree_from_level root cs) ∙ level_fault-tree_fault root cs (level_fault_is root cs ∙ none),
)

-- ---- any depth

height_settled : (above : Route) (f : Forest RouteSpec) → height (settled_below above f) ≡ height f
height_settled above bare = refl
height_settled above (grow r below after) =
    ap (λ n. max (n + 1) (height (settled_below above after))) (height_settled (settled above r) below)
    ∙ ap (λ n. max (height below + 1) n) (height_settled above after)

module _ (root : Route) (f : Forest RouteSpec) (cs : List Child) (ps : List RouteLayout)
    (children : cs ≡ map (λ r. r.child) (listed (settled_below root f))) (layouts : ps ≡ map layout_of (preorder (settled_below root f))) where
  paired_nested : paired cs ps ≡ preorder (settled_below root f)
  paired_nested = ap (λ ds. paired ds ps) children ∙ ap (λ qs. paired (map (λ r. r.child) (listed (settled_below root f))) qs) layouts
      ∙ paired_preorder (settled_below root f)

  pub tree_from_nested : tree_from root (paired cs ps) ≡ nested_of root f
  tree_from_nested =
      ap (λ ts. tree_from root ts) paired_nested
      ∙ ap (λ g. let t : RoutingTree = record { root = root; below = g } in t) (planted_of_preorder (settled_below root f))

  length_nested : length cs ≡ count (settled_below root f)
  length_nested = ap length children ∙ length-map (listed (settled_below root f)) (λ (r : TreeRoute). r.child)
      ∙ length_listed (settled_below root f)

  -- what is checked of a layout
  pub fault_nested : fault_where (nat_le (length cs) MAX_ROUTES && nat_le (height f) MAX_DEPTH) root cs ≡ tree_fault (nested_of root f)
  fault_nested =
      ap (λ n. fault_where (nat_le n MAX_ROUTES && nat_le (height f) MAX_DEPTH) root cs) length_nested
      ∙ ap (λ n. fault_where (nat_le (count (settled_below root f)) MAX_ROUTES && nat_le n MAX_DEPTH) root cs) (sym (height_settled root f))
      ∙ ap (λ ds. fault_where (is_within MAX_ROUTES MAX_DEPTH (nested_of root f)) root ds) children

  pub is_planted_nested : fault_where (nat_le (length cs) MAX_ROUTES && nat_le (height f) MAX_DEPTH) root cs ≡ None
      → IsPlanted root (paired cs ps)
  is_planted_nested none = (
    subst (λ ts. IsPreorder ts) (sym paired_nested) (ap preorder (planted_of_preorder (settled_below root f))),
    ap tree_fault tree_from_nested ∙ sym fault_nested ∙ none,
  )
