-- The positions of a label set's routes: they ascend, and each is of a route.
use Rattle.std.proofs.Common.{◌≡◌, ℕ, ◌+◌, ◌<◌, ◌≤◌, zero, suc, Bool, true, false, cond, List, [], ◌∷◌, ◌++◌, length, slice_index, All}
use Rattle.std.proofs.Common.{subst, arith}
use Rattle.std.specs.List.Sorted.{IsStrictlyIncreasing}
use Rattle.std.proofs.lemmas.List.Elements.{All-nil, All-cons}
use Rattle.am_alerts.specs.declared.labels.Label.{Label}
use Rattle.am_alerts.specs.Forest.{Forest, bare, grow, count}
use Rattle.am_alerts.specs.Matcher.{match_all}
use Rattle.am_alerts.specs.RoutingTree.{RoutingTree, TreeRoute, last_of, matching, or_self, routes_of}

-- numbers that ascend, from one on and below another
abbrev pub Ascend : ℕ → ℕ → List ℕ → Type 0
Ascend low high [] = low ≤ high
Ascend low high (x ∷ xs) = (low ≤ x) × Ascend (x + 1) high xs

ascend-lower : (low low' high : ℕ) (xs : List ℕ) → low' ≤ low → Ascend low high xs → Ascend low' high xs
ascend-lower low low' high [] under h = omega arith
ascend-lower low low' high (x ∷ xs) under h = (omega (arith, h.0), h.1)

ascend-append : (low mid high : ℕ) (xs ys : List ℕ) → Ascend low mid xs → Ascend mid high ys → Ascend low high (xs ++ ys)
ascend-append low mid high [] ys a b = ascend-lower mid low high ys a b
ascend-append low mid high (x ∷ xs) ys a b = (a.0, ascend-append (x + 1) mid high xs ys a.1 b)

ascend-self : (p high : ℕ) (xs : List ℕ) → Ascend (p + 1) high xs → Ascend p high (or_self p xs)
ascend-self p high [] a = (omega arith, a)
ascend-self p high (x ∷ xs) a = ascend-lower (p + 1) p high (x ∷ xs) (omega arith) a

-- the positions of a forest's routes that match
pub matching-ascend : (p : ℕ) (f : Forest TreeRoute) (labels : List Label) → Ascend p (p + count f) (matching p f labels)
matching-ascend p bare labels = omega arith
matching-ascend p (grow r below after) labels =
    let mid = p + 1 + count below in
    let high = p + (count below + 1 + count after) in
    let e : mid + count after ≡ high = omega arith in
    let later : Ascend mid high (matching mid after labels) =
    subst (λ h. Ascend mid h (matching mid after labels)) e (matching-ascend mid after labels) in
    let reached : Ascend p mid (or_self p (matching (p + 1) below labels)) =
    ascend-self p mid (matching (p + 1) below labels) (matching-ascend (p + 1) below labels) in
    by (match_all r.child.matchers labels) r.child.continues later reached
  where
    by : (m on : Bool) → Ascend (p + 1 + count below) (p + (count below + 1 + count after)) (matching (p + 1 + count below) after labels)
        → Ascend p (p + 1 + count below) (or_self p (matching (p + 1) below labels))
        → Ascend p (p + (count below + 1 + count after))
        (cond m (or_self p (matching (p + 1) below labels) ++ cond on (matching (p + 1 + count below) after labels) [])
        (matching (p + 1 + count below) after labels))
    by true true later reached =
        ascend-append p (p + 1 + count below) (p + (count below + 1 + count after)) (or_self p (matching (p + 1) below labels))
        (matching (p + 1 + count below) after labels) reached later
    by true false later reached =
        ascend-append p (p + 1 + count below) (p + (count below + 1 + count after)) (or_self p (matching (p + 1) below labels)) [] reached
        (omega arith)
    by false on later reached =
        ascend-lower (p + 1 + count below) p (p + (count below + 1 + count after)) (matching (p + 1 + count below) after labels)
        (omega arith) later

routes_of-ascend : (tree : RoutingTree) (labels : List Label) → Ascend 0 (1 + last_of tree) (routes_of tree labels)
routes_of-ascend tree labels = ascend-self 0 (1 + last_of tree) (matching 1 tree.below labels) (matching-ascend 1 tree.below labels)

-- a number before a list of greater ones that ascend
rises-cons : (x y : ℕ) (ys : List ℕ) → x + 1 ≤ y → IsStrictlyIncreasing (y ∷ ys) → IsStrictlyIncreasing (x ∷ y ∷ ys)
rises-cons x y ys above rises zero within = omega arith
rises-cons x y ys above rises (suc k) within =
    let e : suc (k + 1) ≡ suc k + 1 = omega arith in
    subst (λ j. slice_index (x ∷ y ∷ ys) (suc k) < slice_index (x ∷ y ∷ ys) j) e (rises k (omega arith))

rises-ascend : (low high : ℕ) (xs : List ℕ) → Ascend low high xs → IsStrictlyIncreasing xs
rises-ascend low high [] a = λ k within. absurd (omega arith)
rises-ascend low high (x ∷ []) a = λ k within. absurd (omega arith)
rises-ascend low high (x ∷ y ∷ ys) a = rises-cons x y ys a.1.0 (rises-ascend (x + 1) high (y ∷ ys) a.1)

below-ascend : (low high : ℕ) (xs : List ℕ) → Ascend low (1 + high) xs → All (λ p. p ≤ high) xs
below-ascend low high [] a = All-nil (λ p. p ≤ high)
below-ascend low high (x ∷ xs) a =
    All-cons (λ p. p ≤ high) x xs (omega (arith, last (x + 1) (1 + high) xs a.1)) (below-ascend (x + 1) high xs a.1)
  where
    last : (low high : ℕ) (xs : List ℕ) → Ascend low high xs → low ≤ high
    last low high [] a = a
    last low high (x ∷ xs) a = omega (arith, a.0, last (x + 1) high xs a.1)

pub routes_of-rises : (tree : RoutingTree) (labels : List Label) → IsStrictlyIncreasing (routes_of tree labels)
routes_of-rises tree labels = rises-ascend 0 (1 + last_of tree) (routes_of tree labels) (routes_of-ascend tree labels)

pub routes_of-exist : (tree : RoutingTree) (labels : List Label) → All (λ p. p ≤ last_of tree) (routes_of tree labels)
routes_of-exist tree labels = below-ascend 0 (last_of tree) (routes_of tree labels) (routes_of-ascend tree labels)

pub routes_of-some : (tree : RoutingTree) (labels : List Label) → 0 < length (routes_of tree labels)
routes_of-some tree labels = by (matching 1 tree.below labels)
  where
    by : (ps : List ℕ) → 0 < length (or_self 0 ps)
    by [] = omega arith
    by (p ∷ ps) = omega arith
