-- Forests and the lists in which they lie.
use Rattle.std.proofs.Common.{◌≡◌, ℕ, ◌+◌, ◌-◌, ◌<◌, ◌≤◌, zero, suc, List, [], ◌∷◌, ◌++◌, length, map, get_or, take, drop, None, sym, refl}
use Rattle.std.proofs.Common.{ap, ◌∙◌, subst, arith}
use Rattle.std.proofs.lemmas.List.{map-append, length-append, length-take-le, length-drop, take_at, drop_at, take-take, drop-take}
use Rattle.std.proofs.lemmas.List.{drop-drop, drop_more, take_all}
use Rattle.am_alerts.specs.Forest.{Forest, bare, grow, count, listed, level}
use Rattle.am_alerts.specs.Layout.{preorder, planted, planted_of_preorder, first_trees-none, other_trees, other_trees-none}
use Rattle.am_alerts.specs.RouteLayouts.{IsPreorder, IsPlanted, below_in, paired, part, layout_of, muted_in, tree_from}
use Rattle.am_alerts.specs.RoutingTree.{RoutingTree, TreeRoute, below_at, plain, children_of, last_of, tree_fault}
use Rattle.am_alerts.specs.Spans.{muted_at}
use Rattle.am_alerts.specs.declared.route_layout.RouteLayout.{RouteLayout}
use Rattle.am_alerts.specs.declared.route.Child.{Child}
use Rattle.am_alerts.specs.declared.route.Route.{Route}

-- ---- any forest

module _ {X : Type 0} where
  pub length_preorder : (f : Forest X) → length (preorder f) ≡ count f
  length_preorder bare = refl
  length_preorder (grow x below after) = omega (arith, length-append (preorder below) (preorder after), length_preorder below, length_preorder after)

  pub listed_of_preorder : (f : Forest X) → map (λ t. t.0) (preorder f) ≡ listed f
  listed_of_preorder bare = refl
  listed_of_preorder (grow x below after) =
      ap (λ xs. x ∷ xs) (map-append (λ t. t.0) (preorder below) (preorder after)
      ∙ ap (λ xs. xs ++ map (λ t. t.0) (preorder after)) (listed_of_preorder below)
      ∙ ap (λ xs. listed below ++ xs) (listed_of_preorder after))

  pub length_listed : (f : Forest X) → length (listed f) ≡ count f
  length_listed bare = refl
  length_listed (grow x below after) = omega (arith, length-append (listed below) (listed after), length_listed below, length_listed after)

  pub listed_level : (xs : List X) → listed (level xs) ≡ xs
  listed_level [] = refl
  listed_level (x ∷ xs) = ap (λ ys. x ∷ ys) (listed_level xs)

-- ---- children with their layouts

pub length_paired : (cs : List Child) (ps : List RouteLayout) → length (paired cs ps) ≡ length cs
length_paired [] ps = refl
length_paired (c ∷ cs) [] = ap suc (length_paired cs [])
length_paired (c ∷ cs) (p ∷ ps) = ap suc (length_paired cs ps)

pub children_paired : (cs : List Child) (ps : List RouteLayout) → map (λ t. t.0.child) (paired cs ps) ≡ cs
children_paired [] ps = refl
children_paired (c ∷ cs) [] = ap (λ r. c ∷ r) (children_paired cs [])
children_paired (c ∷ cs) (p ∷ ps) = ap (λ r. c ∷ r) (children_paired cs ps)

-- the route that is kept at a layout
abbrev pub kept_route : Child → List RouteLayout → ℕ → TreeRoute
kept_route c ps k = record { child = c; muted = muted_in ps k }

pub get_or_paired : (cs : List Child) (ps : List RouteLayout) (k : ℕ) (d : Child) (e : TreeRoute × ℕ) → k < length cs
    → get_or (paired cs ps) k e ≡ (kept_route (get_or cs k d) ps k, below_in ps k)
get_or_paired [] ps k d e within = absurd (omega arith)
get_or_paired (c ∷ cs) [] zero d e within = refl
get_or_paired (c ∷ cs) [] (suc k) d e within = get_or_paired cs [] k d e (omega arith)
get_or_paired (c ∷ cs) (p ∷ ps) zero d e within = refl
get_or_paired (c ∷ cs) (p ∷ ps) (suc k) d e within = get_or_paired cs ps k d e (omega arith)

pub paired_again : (ts : List (TreeRoute × ℕ)) → paired (map (λ t. t.0.child) ts) (map layout_of ts) ≡ ts
paired_again [] = refl
paired_again (t ∷ ts) = ap (λ r. t ∷ r) (paired_again ts)

children_twice : (ts : List (TreeRoute × ℕ)) → map (λ r. r.child) (map (λ t. t.0) ts) ≡ map (λ t. t.0.child) ts
children_twice [] = refl
children_twice (t ∷ ts) = ap (λ r. t.0.child ∷ r) (children_twice ts)

pub children_preorder : (f : Forest TreeRoute) → map (λ t. t.0.child) (preorder f) ≡ map (λ r. r.child) (listed f)
children_preorder f = sym (children_twice (preorder f)) ∙ ap (map (λ r. r.child)) (listed_of_preorder f)

-- the children and the layouts of a forest are its layout
pub paired_preorder : (f : Forest TreeRoute) → paired (map (λ r. r.child) (listed f)) (map layout_of (preorder f)) ≡ preorder f
paired_preorder f = ap (λ cs. paired cs (map layout_of (preorder f))) (sym (children_preorder f)) ∙ paired_again (preorder f)

-- children without layouts are one level
pub planted_level : (cs : List Child) → planted (paired cs []) ≡ level (map plain cs)
planted_level [] = refl
planted_level (c ∷ cs) =
    ap (λ f. grow (plain c) f (other_trees 0 (planted (paired cs [])))) (first_trees-none (planted (paired cs [])))
    ∙ ap (λ f. grow (plain c) bare f) (other_trees-none (planted (paired cs [])) ∙ planted_level cs)

pub preorder_level : (cs : List Child) → preorder (level (map plain cs)) ≡ paired cs []
preorder_level [] = refl
preorder_level (c ∷ cs) = ap (λ ts. (plain c, 0) ∷ ts) (preorder_level cs)

module _ (root : Route) (cs : List Child) (ps : List RouteLayout) (is_preorder : IsPreorder (paired cs ps)) where
  pub children_planted : children_of (tree_from root (paired cs ps)) ≡ cs
  children_planted =
      sym (children_preorder (planted (paired cs ps))) ∙ ap (map (λ t. t.0.child)) is_preorder ∙ children_paired cs ps

  pub last_planted : last_of (tree_from root (paired cs ps)) ≡ length cs
  last_planted = sym (length_preorder (planted (paired cs ps))) ∙ ap length is_preorder ∙ length_paired cs ps

-- ---- the first route of a layout, those below it and those after it

abbrev Splits : TreeRoute × ℕ → List (TreeRoute × ℕ) → Forest TreeRoute → Type 0
Splits t rest f =
    (t.1 ≤ length rest) × IsPreorder (take t.1 rest) × IsPreorder (drop t.1 rest)
    × (f ≡ grow t.0 (planted (take t.1 rest)) (planted (drop t.1 rest)))

splits-grow : (x : TreeRoute) (below after : Forest TreeRoute) → Splits (x, count below) (preorder below ++ preorder after) (grow x below after)
splits-grow x below after =
    let taken : take (count below) (preorder below ++ preorder after) ≡ preorder below =
    take_at (preorder below) (preorder after) (count below) (length_preorder below) in
    let left : drop (count below) (preorder below ++ preorder after) ≡ preorder after =
    drop_at (preorder below) (preorder after) (count below) (length_preorder below) in (
      omega (arith, length-append (preorder below) (preorder after), length_preorder below),
      subst (λ ts. IsPreorder ts) (sym taken) (ap preorder (planted_of_preorder below)),
      subst (λ ts. IsPreorder ts) (sym left) (ap preorder (planted_of_preorder after)),
      ap (λ f. grow x f after) (sym (ap planted taken ∙ planted_of_preorder below))
          ∙ ap (λ f. grow x (planted (take (count below) (preorder below ++ preorder after))) f) (sym (ap planted left ∙ planted_of_preorder after)),
    )

splits : (f : Forest TreeRoute) (t : TreeRoute × ℕ) (rest : List (TreeRoute × ℕ)) → preorder f ≡ t ∷ rest → Splits t rest f
splits bare t rest e = absurd (cc)
splits (grow x below after) t rest e =
    let first : (x, count below) ≡ t = cc in
    let others : preorder below ++ preorder after ≡ rest = cc in
    subst (λ u. Splits u rest (grow x below after)) first
    (subst (λ us. Splits (x, count below) us (grow x below after)) others (splits-grow x below after))

-- ---- parts of a list

part-cons : (ts : List (TreeRoute × ℕ)) (at to : ℕ) (d : TreeRoute × ℕ) → at < to → to ≤ length ts
    → part at to ts ≡ get_or ts at d ∷ part (at + 1) to ts
part-cons ts at to d before within =
    let size : to - at ≡ suc (to - (at + 1)) = omega arith in
    ap (λ us. take (to - at) us) (drop_more ts at d (omega arith)) ∙ ap (λ n. take n (get_or ts at d ∷ drop (at + 1) ts)) size

part-take : (ts : List (TreeRoute × ℕ)) (at n to : ℕ) → at + n ≤ to → take n (part at to ts) ≡ part at (at + n) ts
part-take ts at n to within =
    let size : n ≡ at + n - at = omega arith in
    take-take n (to - at) (drop at ts) (omega arith) ∙ ap (λ k. take k (drop at ts)) size

part-drop : (ts : List (TreeRoute × ℕ)) (at n to : ℕ) → at + n ≤ to → drop n (part at to ts) ≡ part (at + n) to ts
part-drop ts at n to within =
    let size : to - at ≡ n + (to - (at + n)) = omega arith in
    ap (λ k. drop n (take k (drop at ts))) size
    ∙ drop-take n (to - (at + n)) (drop at ts)
    ∙ ap (λ us. take (to - (at + n)) us) (drop-drop n at ts)

length_part : (ts : List (TreeRoute × ℕ)) (at to : ℕ) → at ≤ to → to ≤ length ts → length (part at to ts) ≡ to - at
length_part ts at to before within = length-take-le (to - at) (drop at ts) (omega (arith, length-drop at ts))

pub part-all : (ts : List (TreeRoute × ℕ)) → part 0 (length ts) ts ≡ ts
part-all ts = let size : length ts - 0 ≡ length ts = omega arith in take_all (length ts - 0) ts (omega arith)

pub part-none : (ts : List (TreeRoute × ℕ)) (at to : ℕ) → to ≤ at → part at to ts ≡ []
part-none ts at to past = let none : to - at ≡ 0 = omega arith in ap (λ n. take n (drop at ts)) none

-- the route at a layout in a part that is written, those below it and those after them
pub record IsOpened (ts : List (TreeRoute × ℕ)) (at to end : ℕ) (x : TreeRoute) : Type 0 where
  pub ends : end ≤ to
  pub below : IsPreorder (part (at + 1) end ts)
  pub after : IsPreorder (part end to ts)
  pub whole : planted (part at to ts) ≡ grow x (planted (part (at + 1) end ts)) (planted (part end to ts))
  pub size : at + 1 + count (planted (part (at + 1) end ts)) ≡ end

pub opened : (ts : List (TreeRoute × ℕ)) (at to : ℕ) (d : TreeRoute × ℕ) → at < to → to ≤ length ts → IsPreorder (part at to ts)
    → IsOpened ts at to (at + 1 + (get_or ts at d).1) (get_or ts at d).0
opened ts at to d before within is_preorder =
    let t = get_or ts at d in
    let rest = part (at + 1) to ts in
    let cons : part at to ts ≡ t ∷ rest = part-cons ts at to d before within in
    let parts : Splits t rest (planted (part at to ts)) = splits (planted (part at to ts)) t rest (is_preorder ∙ cons) in
    let space : at + 1 + t.1 ≤ to = omega (arith, parts.0, length_part ts (at + 1) to (omega arith) within) in
    let taken : take t.1 rest ≡ part (at + 1) (at + 1 + t.1) ts = part-take ts (at + 1) t.1 to space in
    let left : drop t.1 rest ≡ part (at + 1 + t.1) to ts = part-drop ts (at + 1) t.1 to space in
    let below : IsPreorder (part (at + 1) (at + 1 + t.1) ts) = subst (λ us. IsPreorder us) taken parts.1 in
    record {
      ends = space;
      below = below;
      after = subst (λ us. IsPreorder us) left parts.2;
      whole = parts.3 ∙ ap (λ us. grow t.0 (planted us) (planted (drop t.1 rest))) taken
          ∙ ap (λ us. grow t.0 (planted (part (at + 1) (at + 1 + t.1) ts)) (planted us)) left;
      size = omega (
        arith,
        sym (length_preorder (planted (part (at + 1) (at + 1 + t.1) ts)))
            ∙ ap length below,
        length_part ts (at + 1) (at + 1 + t.1) (omega arith) (omega arith),
      );
    }

-- ---- how many are below a route of a layout: no more than there are

abbrev AreSmall : ℕ → List (TreeRoute × ℕ) → Type 0
AreSmall n [] = Unit {0}
AreSmall n (t ∷ ts) = (t.1 ≤ n) × AreSmall n ts

small-append : (n : ℕ) (ts us : List (TreeRoute × ℕ)) → AreSmall n ts → AreSmall n us → AreSmall n (ts ++ us)
small-append n [] us a b = b
small-append n (t ∷ ts) us a b = (a.0, small-append n ts us a.1 b)

small_preorder : (n : ℕ) (f : Forest TreeRoute) → count f ≤ n → AreSmall n (preorder f)
small_preorder n bare few = tt
small_preorder n (grow x below after) few =
    (omega arith, small-append n (preorder below) (preorder after) (small_preorder n below (omega arith)) (small_preorder n after (omega arith)))

small-at : (n : ℕ) (ts : List (TreeRoute × ℕ)) (k : ℕ) → AreSmall n ts → get_or (map (λ t. t.1) ts) k 0 ≤ n
small-at n [] k a = omega arith
small-at n (t ∷ ts) zero a = a.0
small-at n (t ∷ ts) (suc k) a = small-at n ts k a.1

layouts_paired : (cs : List Child) (ps : List RouteLayout) (k : ℕ) → k < length cs → get_or (map (λ t. t.1) (paired cs ps)) k 0 ≡ below_in ps k
layouts_paired [] ps k within = absurd (omega arith)
layouts_paired (c ∷ cs) [] zero within = refl
layouts_paired (c ∷ cs) [] (suc k) within = layouts_paired cs [] k (omega arith)
layouts_paired (c ∷ cs) (p ∷ ps) zero within = refl
layouts_paired (c ∷ cs) (p ∷ ps) (suc k) within = layouts_paired cs ps k (omega arith)

muted_paired : (cs : List Child) (ps : List RouteLayout) (k : ℕ) → k < length cs → get_or (map (λ t. t.0.muted) (paired cs ps)) k [] ≡ muted_in ps k
muted_paired [] ps k within = absurd (omega arith)
muted_paired (c ∷ cs) [] zero within = refl
muted_paired (c ∷ cs) [] (suc k) within = muted_paired cs [] k (omega arith)
muted_paired (c ∷ cs) (p ∷ ps) zero within = refl
muted_paired (c ∷ cs) (p ∷ ps) (suc k) within = muted_paired cs ps k (omega arith)

muted_twice : (ts : List (TreeRoute × ℕ)) → map (λ r. r.muted) (map (λ t. t.0) ts) ≡ map (λ t. t.0.muted) ts
muted_twice [] = refl
muted_twice (t ∷ ts) = ap (λ r. t.0.muted ∷ r) (muted_twice ts)

muted_preorder : (f : Forest TreeRoute) → map (λ t. t.0.muted) (preorder f) ≡ map (λ r. r.muted) (listed f)
muted_preorder f = sym (muted_twice (preorder f)) ∙ ap (map (λ r. r.muted)) (listed_of_preorder f)

-- ---- a routing tree and what it is kept as

module _ (root : Route) (cs : List Child) (ps : List RouteLayout) (tree : RoutingTree) (view : tree_from root (paired cs ps) ≡ tree)
    (kept : IsPlanted root (paired cs ps)) where
  pub kept_children : cs ≡ children_of tree
  kept_children = sym (children_planted root cs ps kept.0) ∙ ap children_of view

  pub kept_last : length cs ≡ last_of tree
  kept_last = sym (last_planted root cs ps kept.0) ∙ ap last_of view

  pub kept_sound : tree_fault tree ≡ None
  kept_sound = sym (ap tree_fault view) ∙ kept.1

  pub kept_below : (position : ℕ) → 0 < position → position ≤ last_of tree → below_in ps (position - 1) ≡ below_at tree position
  kept_below position some within =
      sym (layouts_paired cs ps (position - 1) (omega (arith, kept_last)))
      ∙ ap (λ ts. get_or (map (λ t. t.1) ts) (position - 1) 0) (sym kept.0)
      ∙ ap (λ t. below_at t position) view

  pub kept_muted : (position : ℕ) → 0 < position → position ≤ last_of tree → muted_in ps (position - 1) ≡ muted_at tree position
  kept_muted zero some within = absurd (omega arith)
  kept_muted (suc k) some within =
      let e : suc k - 1 ≡ k = omega arith in
      ap (muted_in ps) e
      ∙ sym (muted_paired cs ps k (omega (arith, kept_last)))
      ∙ ap (λ ts. get_or (map (λ t. t.0.muted) ts) k []) (sym kept.0)
      ∙ ap (λ xs. get_or xs k []) (muted_preorder (planted (paired cs ps)))
      ∙ ap (λ t. muted_at t (suc k)) view

  pub below_at-small : (position : ℕ) → below_at tree position ≤ last_of tree
  below_at-small position = small-at (last_of tree) (preorder tree.below) (position - 1) (small_preorder (last_of tree) tree.below (omega arith))

-- the whole list is the part of it that is in it
pub part_paired : (cs : List Child) (ps : List RouteLayout) → part 0 (length cs) (paired cs ps) ≡ paired cs ps
part_paired cs ps = ap (λ n. part 0 n (paired cs ps)) (sym (length_paired cs ps)) ∙ part-all (paired cs ps)
