-- Weights of lists, and totals over hands.
use Rattle.std.proofs.Common.{◌≡◌, ◌≢◌, ℕ, zero, suc, ◌+◌, ◌≤◌, List, [], ◌∷◌, ◌++◌, length, set, refl, sym, ap, ◌∙◌, arith, ◌==◌}
use Rattle.std.proofs.Common.{if◌then◌else◌}
use Rattle.std.proofs.lemmas.Bool.Decides.{nat_tests}
use mathlib.Core.Option.{some, some-ne-none, some-injective}
use lib.ListN.{get_elem?}
use Rattle.am_pool.specs.declared.queue.Hand.{Hand}
use Rattle.am_pool.specs.Dealt.{weigh, total, numbers, times, once_below}

pub weigh-append : (h : ℕ → ℕ) (xs ys : List ℕ) → weigh h (xs ++ ys) ≡ weigh h xs + weigh h ys
weigh-append h [] ys = omega arith
weigh-append h (x ∷ xs) ys = omega (arith, weigh-append h xs ys)

pub weigh-one : (xs : List ℕ) → weigh (λ _. 1) xs ≡ length xs
weigh-one [] = refl
weigh-one (x ∷ xs) = omega (arith, weigh-one xs)

pub numbers-length : (from n : ℕ) → length (numbers from n) ≡ n
numbers-length from zero = refl
numbers-length from (suc n) = ap suc (numbers-length (from + 1) n)

pub numbers-snoc : (from n : ℕ) → numbers from n ++ (from + n) ∷ [] ≡ numbers from (suc n)
numbers-snoc from zero = ap (λ (k : ℕ). k ∷ []) (omega arith)
numbers-snoc from (suc n) =
    let e : from + suc n ≡ from + 1 + n = omega arith in
    ap (λ (k : ℕ). from ∷ (numbers (from + 1) n ++ k ∷ [])) e ∙ ap (λ (l : List ℕ). from ∷ l) (numbers-snoc (from + 1) n)

pub weigh_next : (h : ℕ → ℕ) (n : ℕ) → weigh h (numbers 0 (n + 1)) ≡ weigh h (numbers 0 n) + h n
weigh_next h n =
    let s : n + 1 ≡ suc n = omega arith in
    let z : 0 + n ≡ n = omega arith in
    let e : numbers 0 n ++ n ∷ [] ≡ numbers 0 (n + 1) =
    ap (λ (k : ℕ). numbers 0 n ++ k ∷ []) (sym z) ∙ numbers-snoc 0 n ∙ ap (numbers 0) (sym s) in
    omega (arith, ap (weigh h) e, weigh-append h (numbers 0 n) (n ∷ []))

-- a run of numbers in two pieces
pub weigh-pieces : (h : ℕ → ℕ) (from m n : ℕ)
    → weigh h (numbers from (m + n)) ≡ weigh h (numbers from m) + weigh h (numbers (from + m) n)
weigh-pieces h from zero n =
    let e : 0 + n ≡ n = omega arith in
    let f : from + 0 ≡ from = omega arith in
    omega (arith, ap (λ (k : ℕ). weigh h (numbers from k)) e, ap (λ (k : ℕ). weigh h (numbers k n)) f)
weigh-pieces h from (suc m) n =
    let e : suc m + n ≡ suc (m + n) = omega arith in
    let f : from + suc m ≡ from + 1 + m = omega arith in
    let whole = ap (λ (k : ℕ). weigh h (numbers from k)) e in
    omega (arith, whole, weigh-pieces h (from + 1) m n, ap (λ (k : ℕ). weigh h (numbers k n)) f)

-- among the numbers below one, each of these is once, and no other
pub times-numbers : (k n : ℕ) → times k (numbers 0 n) ≡ once_below n k
times-numbers k zero = grind (arith, nat_tests)
times-numbers k (suc n) =
    let e : n + 1 ≡ suc n = omega arith in
    let h = λ (y : ℕ). if y == k then 1 else 0 in
    let more = sym (ap (λ (i : ℕ). weigh h (numbers 0 i)) e) ∙ weigh_next h n in
    grind (arith, nat_tests, more, times-numbers k n)

-- the total after a change of one hand
pub total_set : (f : Hand → ℕ) (views : List Hand) (port : ℕ) (v w : Hand) → get_elem? views port ≡ some v
    → total f (set views port w) + f v ≡ total f views + f w
total_set f [] port v w e = absurd (some-ne-none v (sym e))
total_set f (x ∷ xs) zero v w e = omega (arith, ap f (some-injective x v e))
total_set f (x ∷ xs) (suc port) v w e = omega (arith, total_set f xs port v w e)

pub total-snoc : (f : Hand → ℕ) (views : List Hand) (w : Hand) → total f (views ++ w ∷ []) ≡ total f views + f w
total-snoc f [] w = omega arith
total-snoc f (x ∷ xs) w = omega (arith, total-snoc f xs w)

pub total_at : (f : Hand → ℕ) (views : List Hand) (port : ℕ) (v : Hand) → get_elem? views port ≡ some v → f v ≤ total f views
total_at f [] port v e = absurd (some-ne-none v (sym e))
total_at f (x ∷ xs) zero v e = omega (arith, ap f (some-injective x v e))
total_at f (x ∷ xs) (suc port) v e = omega (arith, total_at f xs port v e)

-- two hands are no more than all
pub total_two : (f : Hand → ℕ) (views : List Hand) (i j : ℕ) (u v : Hand) → i ≢ j → get_elem? views i ≡ some u
    → get_elem? views j ≡ some v → f u + f v ≤ total f views
total_two f [] i j u v ne e e' = absurd (some-ne-none u (sym e))
total_two f (x ∷ xs) zero zero u v ne e e' = absurd (ne refl)
total_two f (x ∷ xs) zero (suc j) u v ne e e' = omega (arith, ap f (some-injective x u e), total_at f xs j v e')
total_two f (x ∷ xs) (suc i) zero u v ne e e' = omega (arith, ap f (some-injective x v e'), total_at f xs i u e)
total_two f (x ∷ xs) (suc i) (suc j) u v ne e e' = omega (arith, total_two f xs i j u v (λ s. ne (ap suc s)) e e')

-- where only one hand counts, the total is that hand's
pub total_alone : (f : Hand → ℕ) (views : List Hand) (port : ℕ) (v : Hand) → get_elem? views port ≡ some v
    → ((j : ℕ) (u : Hand) → j ≢ port → get_elem? views j ≡ some u → f u ≡ 0) → total f views ≡ f v
total_alone f [] port v e rest = absurd (some-ne-none v (sym e))
total_alone f (x ∷ xs) zero v e rest =
    omega (arith, ap f (some-injective x v e), none f xs (λ j u e'. rest (suc j) u (λ s. absurd (cc)) e'))
  where
    none : (f : Hand → ℕ) (xs : List Hand) → ((j : ℕ) (u : Hand) → get_elem? xs j ≡ some u → f u ≡ 0) → total f xs ≡ 0
    none f [] all = refl
    none f (y ∷ ys) all = omega (arith, all 0 y refl, none f ys (λ j u e. all (suc j) u e))
total_alone f (x ∷ xs) (suc port) v e rest =
    omega (arith, rest 0 x (λ s. absurd (cc)) refl, total_alone f xs port v e (λ j u ne e'. rest (suc j) u (λ s. ne (cc (s))) e'))
