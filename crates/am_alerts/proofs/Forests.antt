-- Forests of nodes.
use Rattle.std.proofs.Common.{◌≡◌, ℕ, ◌+◌, ◌-◌, ◌<◌, ◌≤◌, suc, inl, inr, Bool, List, [], ◌∷◌, ◌++◌, length, map, set, get_or, drop, true}
use Rattle.std.proofs.Common.{false, refl, sym, ap, ◌∙◌, arith}
use Rattle.std.specs.Prelude.{max, nat_le}
use Rattle.std.proofs.lemmas.Bool.{cases_lt, le-leb, leb-false, leb-true, lt-leb}
use Rattle.std.proofs.lemmas.List.{append_assoc, at_drop_more, length-append, length-map, map-append, set_at}
use Rattle.am_alerts.specs.Forest.{Forest, bare, grow, count, height, listed}
use Rattle.am_alerts.specs.Layout.{followed, preorder}
use Rattle.am_alerts.specs.Nested.{Branch, branch, branch_step, forest, rule_of, below_of, settled, settled_below, settled_route}
use Rattle.am_alerts.specs.RouteLayouts.{layout_of, tree_below}
use Rattle.am_alerts.specs.RoutingTree.{TreeRoute}
use Rattle.am_alerts.specs.declared.route_layout.RouteLayout.{RouteLayout}
use Rattle.am_alerts.specs.declared.route.Child.{Child}
use Rattle.am_alerts.specs.declared.route.Route.{Route}
use Rattle.am_alerts.specs.declared.spans.Spans.{Spans}
use Rattle.am_alerts.specs.declared.tree.RouteSpec.{RouteSpec}
use Rattle.am_alerts.specs.declared.tree.Node.{Node}
use Rattle.am_alerts.specs.declared.tree.Node.TheFolds.{fold_out-Node}
use Rattle.am_alerts.proofs.Layouts.{length_preorder}

-- a node as a branch
pub branch_out : (n : Node) → branch n ≡ record { rule = rule_of n; below = below_of n }
branch_out = fold_out-Node Branch branch_step

pub forest-cons : (n : Node) (ns : List Node) → forest (n ∷ ns) ≡ grow (rule_of n) (below_of n) (forest ns)
forest-cons n ns = ap (λ b. grow b.rule b.below (forest ns)) (branch_out n)

low_none : (h r : ℕ) → nat_le (max (h + 1) r) 0 ≡ false
low_none h r = lt-leb (max (h + 1) r) 0 (omega arith)

low_under : (h r n : ℕ) → nat_le h (n - 1) ≡ false → nat_le (max (h + 1) r) n ≡ false
low_under h r n high = lt-leb (max (h + 1) r) n (omega (arith, leb-false h (n - 1) high))

low_on : (h r n : ℕ) → 0 < n → nat_le h (n - 1) ≡ true → nat_le (max (h + 1) r) n ≡ nat_le r n
low_on h r n some low =
    let fits : h ≤ n - 1 = leb-true h (n - 1) low in
    elim (cases_lt n r) [
      | inl above ↦ lt-leb (max (h + 1) r) n (omega arith) ∙ sym (lt-leb r n above)
      | inr within ↦ le-leb (max (h + 1) r) n (omega arith) ∙ sym (le-leb r n within)
    ]

module _ (nodes : List Node) (i : ℕ) (n d : Node) (within : i < length nodes) (here : n ≡ get_or nodes i d) where
  -- the nodes from a layout on, as a forest
  pub forest-drop : forest (drop i nodes) ≡ grow (rule_of n) (below_of n) (forest (drop (i + 1) nodes))
  forest-drop =
      at_drop_more (λ ns. forest ns) nodes i d within
      ∙ ap (λ m. forest (m ∷ drop (i + 1) nodes)) (sym here)
      ∙ forest-cons n (drop (i + 1) nodes)

  module _ (levels : ℕ) (whole : Bool) (so_far : nat_le (height (forest (drop i nodes))) levels ≡ whole) where
    pub low-none : levels ≡ 0 → false ≡ whole
    low-none none =
        sym (ap (λ f. nat_le (height f) levels) forest-drop
        ∙ ap (λ l. nat_le (max (height (below_of n) + 1) (height (forest (drop (i + 1) nodes)))) l) none
        ∙ low_none (height (below_of n)) (height (forest (drop (i + 1) nodes))))
        ∙ so_far

    pub low-under : nat_le (height (below_of n)) (levels - 1) ≡ false → false ≡ whole
    low-under high =
        sym (ap (λ f. nat_le (height f) levels) forest-drop
        ∙ low_under (height (below_of n)) (height (forest (drop (i + 1) nodes))) levels high) ∙ so_far

    pub low-on : 0 < levels → nat_le (height (below_of n)) (levels - 1) ≡ true
        → nat_le (height (forest (drop (i + 1) nodes))) levels ≡ whole
    low-on some low =
        sym (ap (λ f. nat_le (height f) levels) forest-drop
        ∙ low_on (height (below_of n)) (height (forest (drop (i + 1) nodes))) levels some low) ∙ so_far

-- ---- node after node

followed_forest : (ns : List Node) (m : Node) → forest (ns ++ m ∷ []) ≡ followed (forest ns) (grow (rule_of m) (below_of m) bare)
followed_forest [] m = forest-cons m []
followed_forest (n ∷ ns) m =
    forest-cons n (ns ++ m ∷ []) ∙ ap (λ f. grow (rule_of n) (below_of n) f) (followed_forest ns m)
    ∙ ap (λ f. followed f (grow (rule_of m) (below_of m) bare)) (sym (forest-cons n ns))

followed_settled : (above : Route) (f g : Forest RouteSpec)
    → settled_below above (followed f g) ≡ followed (settled_below above f) (settled_below above g)
followed_settled above bare g = refl
followed_settled above (grow r below after) g =
    ap (λ h. grow (settled_route above r) (settled_below (settled above r) below) h) (followed_settled above after g)

module _ {X : Type 0} where
  listed-followed : (f g : Forest X) → listed (followed f g) ≡ listed f ++ listed g
  listed-followed bare g = refl
  listed-followed (grow x below after) g =
      ap (λ xs. x ∷ (listed below ++ xs)) (listed-followed after g)
      ∙ ap (λ xs. x ∷ xs) (sym (append_assoc (listed below) (listed after) (listed g)))

  preorder-followed : (f g : Forest X) → preorder (followed f g) ≡ preorder f ++ preorder g
  preorder-followed bare g = refl
  preorder-followed (grow x below after) g =
      ap (λ xs. (x, count below) ∷ (preorder below ++ xs)) (preorder-followed after g)
      ∙ ap (λ xs. (x, count below) ∷ xs) (sym (append_assoc (preorder below) (preorder after) (preorder g)))

module _ (above : Route) (ns : List Node) (m : Node) where
  settled_more : settled_below above (forest (ns ++ m ∷ []))
      ≡ followed (settled_below above (forest ns)) (tree_below above (rule_of m) (below_of m))
  settled_more = ap (settled_below above) (followed_forest ns m) ∙ followed_settled above (forest ns) (grow (rule_of m) (below_of m) bare)

  -- the routes of one more node, and their layouts
  pub children_more : (before so_far now : List Child) → so_far ≡ before ++ map (λ r. r.child) (listed (settled_below above (forest ns)))
      → now ≡ so_far ++ map (λ r. r.child) (listed (tree_below above (rule_of m) (below_of m)))
      → now ≡ before ++ map (λ r. r.child) (listed (settled_below above (forest (ns ++ m ∷ []))))
  children_more before so_far now was added =
      let first = map (λ (r : TreeRoute). r.child) (listed (settled_below above (forest ns))) in
      let more = map (λ (r : TreeRoute). r.child) (listed (tree_below above (rule_of m) (below_of m))) in
      added ∙ ap (λ cs. cs ++ more) was ∙ append_assoc before first more
      ∙ ap (λ cs. before ++ cs) (sym (ap (λ f. map (λ r. r.child) (listed f)) settled_more
      ∙ ap (map (λ r. r.child)) (listed-followed (settled_below above (forest ns)) (tree_below above (rule_of m) (below_of m)))
      ∙ map-append (λ r. r.child) (listed (settled_below above (forest ns))) (listed (tree_below above (rule_of m) (below_of m)))))

  pub layouts_more : (before so_far now : List RouteLayout) → so_far ≡ before ++ map layout_of (preorder (settled_below above (forest ns)))
      → now ≡ so_far ++ map layout_of (preorder (tree_below above (rule_of m) (below_of m)))
      → now ≡ before ++ map layout_of (preorder (settled_below above (forest (ns ++ m ∷ []))))
  layouts_more before so_far now was added =
      let first = map layout_of (preorder (settled_below above (forest ns))) in
      let more = map layout_of (preorder (tree_below above (rule_of m) (below_of m))) in
      added ∙ ap (λ cs. cs ++ more) was ∙ append_assoc before first more
      ∙ ap (λ cs. before ++ cs) (sym (ap (λ f. map layout_of (preorder f)) settled_more
      ∙ ap (map layout_of) (preorder-followed (settled_below above (forest ns)) (tree_below above (rule_of m) (below_of m)))
      ∙ map-append layout_of (preorder (settled_below above (forest ns))) (preorder (tree_below above (rule_of m) (below_of m)))))

-- the layout of a route is reported once those below it have theirs
pub layout_counted : (before now : List RouteLayout) (x : TreeRoute) (p : RouteLayout) (f : Forest TreeRoute) (size : ℕ) (muted : Spans)
    → muted ≡ x.muted → now ≡ (before ++ p ∷ []) ++ map layout_of (preorder f) → size ≡ length now - length before - 1
    → set now (length before) (record { below = size; muted = muted }) ≡ before ++ layout_of (x, count f) ∷ map layout_of (preorder f)
layout_counted before now x p f size muted own was fact =
    let others = map layout_of (preorder f) in
    let flat : now ≡ before ++ p ∷ others = was ∙ append_assoc before (p ∷ []) others in
    let all : length now ≡ length before + suc (length others) = ap length flat ∙ length-append before (p ∷ others) in
    let many : length others ≡ count f = length-map (preorder f) layout_of ∙ length_preorder f in
    let is : size ≡ count f = fact ∙ omega (arith, all, many) in
    ap (λ ps. set ps (length before) (record { below = size; muted = muted })) flat
    ∙ set_at before p others (record { below = size; muted = muted }) (length before) refl
    ∙ ap (λ s. before ++ (let q : RouteLayout = record { below = size; muted = s } in q) ∷ others) own
    ∙ ap (λ n. before ++ layout_of (x, n) ∷ others) is
