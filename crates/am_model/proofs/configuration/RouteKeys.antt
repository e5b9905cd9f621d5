-- The keys of routes: how a walk over the tree makes them, in which order their matchers are, and where one is found.
use Rattle.std.proofs.Common.{◌≡◌, ℕ, zero, suc, ◌+◌, ◌-◌, ◌<◌, ◌≤◌, Bool, true, false, cond, List, [], ◌∷◌, ◌++◌, length, map, filter, get_or, take, drop, refl, sym, ap, ◌∙◌, subst, arith, append_assoc, if◌then◌else◌}
use Rattle.std.specs.Prelude.{All}
use Rattle.std.specs.List.{AllByRecursion, Contains, insert}
use Rattle.std.specs.Ordering.{is_gt}
use Rattle.std.specs.Str.{bytes_eq}
use Rattle.std.specs.declared.cmp.Ordering.{Ordering}
use Rattle.std.proofs.lemmas.List.{append-nil, drop_all, drop_more, get_or-map, length-append, length-map, length-take-le, take_more}
use Rattle.std.proofs.lemmas.Slice.Eq.{bytes_eq-Decides}
use Rattle.am_alerts.specs.Forest.{Forest, bare, grow, count, listed}
use Rattle.am_alerts.specs.Layout.{preorder, planted, planted_of_preorder}
use Rattle.am_alerts.specs.RouteLayouts.{IsPreorder, part}
use Rattle.am_alerts.specs.RoutingTree.{RoutingTree, TreeRoute, children_of, last_of, plain}
use Rattle.am_alerts.specs.declared.route.Child.{Child}
use Rattle.am_alerts.proofs.Layouts.{children_preorder, length_preorder, length_listed, opened, part-all, part-none}
use Rattle.am_model.specs.Lists.{put_in_order, in_order}
use Rattle.am_model.proofs.lists.Distinct.{all_from}
use Rattle.am_model.specs.RouteKeys.{key_below, keys_below, root_key, keys_of, positions_from}

-- ---- a walk over the tree

module _ (f : Forest TreeRoute) where
  all-preorder : part 0 (count f) (preorder f) ≡ preorder f
  all-preorder = ap (λ n. part 0 n (preorder f)) (sym (length_preorder f)) ∙ part-all (preorder f)

  pub whole_preorder : IsPreorder (part 0 (count f) (preorder f))
  whole_preorder = subst (λ ts. IsPreorder ts) (sym all-preorder) (ap preorder (planted_of_preorder f))

  pub whole_planted : planted (part 0 (count f) (preorder f)) ≡ f
  whole_planted = ap planted all-preorder ∙ planted_of_preorder f

-- the route at an index of the walk, with the keys below it and after it
pub record IsKeyed (f : Forest TreeRoute) (at to end : ℕ) (x : Child) (above : List ℕ) : Type 0 where
  pub ends : end ≤ to
  pub below : IsPreorder (part (at + 1) end (preorder f))
  pub after : IsPreorder (part end to (preorder f))
  pub keys : keys_below above (planted (part at to (preorder f)))
      ≡ key_below above x.matchers ∷ (keys_below (key_below above x.matchers) (planted (part (at + 1) end (preorder f))) ++ keys_below above (planted (part end to (preorder f))))

pub keyed_here : (f : Forest TreeRoute) (at to below : ℕ) (x : Child) (above : List ℕ) → at < to → to ≤ count f
    → x ≡ get_or (map (λ r. r.child) (listed f)) at x → below ≡ get_or (map (λ t. t.1) (preorder f)) at 0 → IsPreorder (part at to (preorder f))
    → IsKeyed f at to (at + 1 + below) x above
keyed_here f at to below x above before within here below-is is_preorder =
    let ts : List (TreeRoute × ℕ) = preorder f in
    let d : TreeRoute × ℕ = (plain x, 0) in
    let long : at < length ts = omega (arith, length_preorder f) in
    let child : (get_or ts at d).0.child ≡ x =
    sym (get_or-map (λ (t : TreeRoute × ℕ). t.0.child) ts at d x long) ∙ ap (λ cs. get_or cs at x) (children_preorder f) ∙ sym here in
    let size : below ≡ (get_or ts at d).1 = below-is ∙ get_or-map (λ (t : TreeRoute × ℕ). t.1) ts at d 0 long in
    let o = opened ts at to d before (omega (arith, length_preorder f)) is_preorder in
    let e : at + 1 + (get_or ts at d).1 ≡ at + 1 + below = ap (λ n. at + 1 + n) (sym size) in
    record {
      ends = subst (λ n. n ≤ to) e o.ends;
      below = subst (λ n. IsPreorder (part (at + 1) n ts)) e o.below;
      after = subst (λ n. IsPreorder (part n to ts)) e o.after;
      keys =
          ap (keys_below above) o.whole
          ∙ (λ i. key_below above (child i).matchers ∷ (keys_below (key_below above (child i).matchers) (planted (part (at + 1) (e i) ts)) ++ keys_below above (planted (part (e i) to ts))));
    }

-- one route more
pub walk_more : (f : Forest TreeRoute) (at to end : ℕ) (x : Child) (above : List ℕ) → IsKeyed f at to end x above
    → (keys pushed more whole : List (List ℕ)) → keys ++ keys_below above (planted (part at to (preorder f))) ≡ whole
    → pushed ≡ keys ++ key_below above x.matchers ∷ []
    → more ≡ pushed ++ keys_below (key_below above x.matchers) (planted (part (at + 1) end (preorder f)))
    → more ++ keys_below above (planted (part end to (preorder f))) ≡ whole
walk_more f at to end x above is keys pushed more whole so_far one rest =
    let own = key_below above x.matchers in
    let below = keys_below own (planted (part (at + 1) end (preorder f))) in
    let after = keys_below above (planted (part end to (preorder f))) in
    ap (λ ks. ks ++ after) (rest ∙ ap (λ ks. ks ++ below) one)
    ∙ append_assoc (keys ++ own ∷ []) below after
    ∙ append_assoc keys (own ∷ []) (below ++ after)
    ∙ ap (λ ks. keys ++ ks) (sym is.keys)
    ∙ so_far

-- no route is left
pub walk_all : (f : Forest TreeRoute) (at to : ℕ) (above : List ℕ) (keys whole : List (List ℕ)) → to ≤ at
    → keys ++ keys_below above (planted (part at to (preorder f))) ≡ whole → keys ≡ whole
walk_all f at to above keys whole past so_far =
    sym (append-nil keys) ∙ sym (ap (λ ts. keys ++ keys_below above (planted ts)) (part-none (preorder f) at to past)) ∙ so_far

length_keys_below : (above : List ℕ) (f : Forest TreeRoute) → length (keys_below above f) ≡ count f
length_keys_below above bare = refl
length_keys_below above (grow r below after) =
    let own = key_below above r.child.matchers in
    omega (arith, length-append (keys_below own below) (keys_below above after), length_keys_below own below, length_keys_below above after)

pub length_keys : (tree : RoutingTree) → length (keys_of tree) ≡ 1 + last_of tree
length_keys tree = omega (arith, length_keys_below root_key tree.below)

pub length_children : (tree : RoutingTree) → length (children_of tree) ≡ last_of tree
length_children tree = length-map (listed tree.below) (λ (r : TreeRoute). r.child) ∙ length_listed tree.below

-- ---- matchers in order

module _ {X : Type 0} (cmp : X → X → Ordering) (x : X) (xs : List X) where
  -- x is above all so far, and so it goes behind them
  abbrev pub GoesBehind : ℕ → Type 0
  GoesBehind i = put_in_order cmp x xs ≡ take i xs ++ put_in_order cmp x (drop i xs)

  pub goes_behind-more : (i : ℕ) (y : X) → i < length xs → y ≡ get_or xs i y → is_gt (cmp x y) ≡ true → GoesBehind i → GoesBehind (i + 1)
  goes_behind-more i y within here above so_far =
      let rest : drop i xs ≡ y ∷ drop (i + 1) xs = drop_more xs i y within ∙ ap (λ z. z ∷ drop (i + 1) xs) (sym here) in
      let first : take (i + 1) xs ≡ take i xs ++ y ∷ [] = take_more xs i y within ∙ ap (λ z. take i xs ++ z ∷ []) (sym here) in
      so_far
      ∙ ap (λ zs. take i xs ++ put_in_order cmp x zs) rest
      ∙ ap (λ b. take i xs ++ cond b (y ∷ put_in_order cmp x (drop (i + 1) xs)) (x ∷ y ∷ drop (i + 1) xs)) above
      ∙ sym (append_assoc (take i xs) (y ∷ []) (put_in_order cmp x (drop (i + 1) xs)))
      ∙ ap (λ zs. zs ++ put_in_order cmp x (drop (i + 1) xs)) (sym first)

  -- it isn't above the next
  pub goes_behind-here : (i : ℕ) (y : X) → i < length xs → y ≡ get_or xs i y → is_gt (cmp x y) ≡ false → GoesBehind i
      → insert xs i x ≡ put_in_order cmp x xs
  goes_behind-here i y within here under so_far =
      let rest : drop i xs ≡ y ∷ drop (i + 1) xs = drop_more xs i y within ∙ ap (λ z. z ∷ drop (i + 1) xs) (sym here) in
      ap (λ zs. take i xs ++ x ∷ zs) rest
      ∙ sym (so_far ∙ ap (λ zs. take i xs ++ put_in_order cmp x zs) rest
      ∙ ap (λ b. take i xs ++ cond b (y ∷ put_in_order cmp x (drop (i + 1) xs)) (x ∷ y ∷ drop (i + 1) xs)) under)

  -- there is no next
  pub goes_behind-all : (i : ℕ) → length xs ≤ i → GoesBehind i → insert xs i x ≡ put_in_order cmp x xs
  goes_behind-all i past so_far =
      let rest : drop i xs ≡ [] = drop_all i xs past in
      ap (λ zs. take i xs ++ x ∷ zs) rest ∙ sym (so_far ∙ ap (λ zs. take i xs ++ put_in_order cmp x zs) rest)

-- the element before those that are in order already
pub in_order-more : {X : Type 0} (cmp : X → X → Ordering) (xs sorted more : List X) (i k index : ℕ) (x : X) → i < length xs → k ≡ length xs - 1 - i
    → x ≡ get_or xs k x → sorted ≡ in_order cmp (drop (length xs - i) xs) → insert sorted index x ≡ put_in_order cmp x sorted
    → more ≡ insert sorted index x → more ≡ in_order cmp (drop (length xs - (i + 1)) xs)
in_order-more cmp xs sorted more i k index x within is here so_far put now =
    let at : length xs - (i + 1) ≡ k = omega (arith, is) in
    let next : k + 1 ≡ length xs - i = omega (arith, is, within) in
    let rest : drop (length xs - (i + 1)) xs ≡ x ∷ drop (length xs - i) xs =
    ap (λ n. drop n xs) at ∙ drop_more xs k x (omega (arith, is, within)) ∙ (λ j. sym here j ∷ drop (next j) xs) in
    now ∙ put ∙ ap (put_in_order cmp x) so_far ∙ ap (in_order cmp) (sym rest)

-- nothing is in order already
pub in_order-none : {X : Type 0} (cmp : X → X → Ordering) (xs : List X) → [] ≡ in_order cmp (drop (length xs - 0) xs)
in_order-none cmp xs = ap (in_order cmp) (sym (drop_all (length xs - 0) xs (omega arith)))

-- ---- where a key is

positions-push : (p : ℕ) (key : List ℕ) (ks : List (List ℕ)) (k : List ℕ)
    → positions_from p key (ks ++ k ∷ []) ≡ (if bytes_eq k key then positions_from p key ks ++ (p + length ks) ∷ [] else positions_from p key ks)
positions-push p key [] k = ap (λ n. if bytes_eq k key then n ∷ [] else []) (none p)
  where
    none : (n : ℕ) → n ≡ n + 0
    none n = omega arith
positions-push p key (j ∷ ks) k =
    let rest = positions_from (p + 1) key ks in
    let n : p + 1 + length ks ≡ p + length (j ∷ ks) = omega arith in
    ap (λ qs. if bytes_eq j key then p ∷ qs else qs) (positions-push (p + 1) key ks k ∙ ap (λ m. if bytes_eq k key then rest ++ m ∷ [] else rest) n)
    ∙ by (bytes_eq j key) (bytes_eq k key) rest (p + length (j ∷ ks))
  where
    by : (a b : Bool) (rest : List ℕ) (n : ℕ)
        → cond a (p ∷ cond b (rest ++ n ∷ []) rest) (cond b (rest ++ n ∷ []) rest) ≡ cond b (cond a (p ∷ rest) rest ++ n ∷ []) (cond a (p ∷ rest) rest)
    by true true rest n = refl
    by true false rest n = refl
    by false true rest n = refl
    by false false rest n = refl

-- one key more
pub positions-more : (keys : List (List ℕ)) (i : ℕ) (k key : List ℕ) (was now : List ℕ) → i < length keys → k ≡ get_or keys i k
    → was ≡ positions_from 0 key (take i keys) → now ≡ (if bytes_eq k key then was ++ i ∷ [] else was)
    → now ≡ positions_from 0 key (take (i + 1) keys)
positions-more keys i k key was now within here so_far put =
    let one : take (i + 1) keys ≡ take i keys ++ k ∷ [] = take_more keys i k within ∙ ap (λ j. take i keys ++ j ∷ []) (sym here) in
    let n : 0 + length (take i keys) ≡ i = omega (arith, length-take-le i keys (omega arith)) in
    put
    ∙ ap (λ qs. if bytes_eq k key then qs ++ i ∷ [] else qs) so_far
    ∙ ap (λ m. if bytes_eq k key then positions_from 0 key (take i keys) ++ m ∷ [] else positions_from 0 key (take i keys)) (sym n)
    ∙ sym (positions-push 0 key (take i keys) k)
    ∙ ap (positions_from 0 key) (sym one)

no-more : (p : ℕ) → p + 0 ≡ p
no-more p = omega arith

one-on : (p i : ℕ) → p + 1 + i ≡ p + suc i
one-on p i = omega arith

-- what holds of each position whose key is this one holds of each that is found
pub each-position : (P : ℕ → Type 0) (p : ℕ) (key : List ℕ) (ks : List (List ℕ)) → ((i : ℕ) → i < length ks → get_or ks i [] ≡ key → P (p + i))
    → AllByRecursion P (positions_from p key ks)
each-position P p key [] h = tt
each-position P p key (k ∷ ks) h =
    let rest : AllByRecursion P (positions_from (p + 1) key ks) =
    each-position P (p + 1) key ks (λ i within e. subst P (sym (one-on p i)) (h (suc i) (omega (arith, within)) e)) in
    elim (bytes_eq k key) as (λ b. bytes_eq k key ≡ b → AllByRecursion P (cond b (p ∷ positions_from (p + 1) key ks) (positions_from (p + 1) key ks))) [
      | true ↦ λ e. (subst P (no-more p) (h 0 (omega arith) ((bytes_eq-Decides k key).0 e)), rest)
      | false ↦ λ e. rest
    ] refl

-- each position that is found is one of the tree
pub positions-exist : (tree : RoutingTree) (key : List ℕ) → All (λ p. p ≤ last_of tree) (positions_from 0 key (keys_of tree))
positions-exist tree key =
    all_from (λ p. p ≤ last_of tree) (positions_from 0 key (keys_of tree))
    (each-position (λ p. p ≤ last_of tree) 0 key (keys_of tree) (λ i within is. omega (arith, within, length_keys tree)))

-- ---- what a list contains

module _ {X : Type 0} where
  contains-first : (x : X) (xs : List X) → Contains (x ∷ xs) x
  contains-first x xs = (0, omega arith, refl)

  contains-later : (y x : X) (xs : List X) → Contains xs x → Contains (y ∷ xs) x
  contains-later y x xs h = (suc h.0, omega (arith, h.1), h.2)

  pub contains-filter : (test : X → Bool) (x : X) → test x ≡ true → (xs : List X) (k : ℕ) → k < length xs → get_or xs k x ≡ x → Contains (filter test xs) x
  contains-filter test x passes [] k within here = absurd (omega (arith, within))
  contains-filter test x passes (y ∷ ys) zero within here =
      let same : test y ≡ true = ap test here ∙ passes in
      subst (λ zs. Contains zs x) (sym (ap (λ b. cond b (y ∷ filter test ys) (filter test ys)) same))
      (subst (λ z. Contains (z ∷ filter test ys) x) (sym here) (contains-first x (filter test ys)))
  contains-filter test x passes (y ∷ ys) (suc k) within here =
      let rest = contains-filter test x passes ys k (omega (arith, within)) here in
      elim (test y) as (λ b. Contains (cond b (y ∷ filter test ys) (filter test ys)) x) [ true ↦ contains-later y x (filter test ys) rest | false ↦ rest ]

pub contains-map : {X Y : Type 0} (f : X → Y) (xs : List X) (x : X) → Contains xs x → Contains (map f xs) (f x)
contains-map f xs x h = (h.0, omega (arith, h.1, length-map xs f), get_or-map f xs h.0 x (f x) h.1 ∙ ap f h.2)

-- the position of a key is found
pub contains-position : (p : ℕ) (key : List ℕ) (ks : List (List ℕ)) (i : ℕ) → i < length ks → get_or ks i key ≡ key → Contains (positions_from p key ks) (p + i)
contains-position p key [] i within here = absurd (omega (arith, within))
contains-position p key (k ∷ ks) zero within here =
    subst (λ qs. Contains qs (p + 0)) (sym (ap (λ b. cond b (p ∷ positions_from (p + 1) key ks) (positions_from (p + 1) key ks)) ((bytes_eq-Decides k key).1 here)))
    (subst (λ q. Contains (q ∷ positions_from (p + 1) key ks) (p + 0)) (no-more p) (contains-first (p + 0) (positions_from (p + 1) key ks)))
contains-position p key (k ∷ ks) (suc i) within here =
    let rest : Contains (positions_from (p + 1) key ks) (p + suc i) =
    subst (Contains (positions_from (p + 1) key ks)) (one-on p i) (contains-position (p + 1) key ks i (omega (arith, within)) here) in
    elim (bytes_eq k key) as (λ b. Contains (cond b (p ∷ positions_from (p + 1) key ks) (positions_from (p + 1) key ks)) (p + suc i)) [
      | true ↦ contains-later p (p + suc i) (positions_from (p + 1) key ks) rest
      | false ↦ rest
    ]
