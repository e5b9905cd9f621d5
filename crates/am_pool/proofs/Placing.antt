-- Reports put into their places, where each number is once.
use Rattle.std.proofs.Common.{◌≡◌, ◌≢◌, ℕ, zero, suc, ◌+◌, ◌<◌, ◌≤◌, Some, List, [], ◌∷◌, length, set, refl, sym, ap, ◌∙◌, subst, arith}
use Rattle.std.specs.Prelude.{slice_get}
use Rattle.std.specs.List.{AllByRecursion}
use Rattle.std.proofs.lemmas.Bool.Decides.{nat_tests}
use Rattle.am_model.specs.declared.notice.Report.{Report}
use Rattle.am_pool.specs.Dealt.{numbers, times}
use Rattle.am_pool.specs.Work.{Run, numbers_of}
use Rattle.am_pool.specs.Gathered.{placed}

one_more : (k : ℕ) (xs : List ℕ) → times k (k ∷ xs) ≡ 1 + times k xs
one_more k xs = grind arith

not_there : (k x : ℕ) (xs : List ℕ) → times k (x ∷ xs) ≡ 0 → (k ≢ x) × (times k xs ≡ 0)
not_there k x xs none = (λ e. absurd (omega (arith, one_more k xs, ap (λ (y : ℕ). times k (y ∷ xs)) (sym e), none)), omega (arith, none))

get_set_same : (rs : List Report) (k : ℕ) (r : Report) → k < length rs → slice_get (set rs k r) k ≡ Some r
get_set_same [] k r in' = absurd (omega (arith, in'))
get_set_same (x ∷ rs) zero r in' = refl
get_set_same (x ∷ rs) (suc k) r in' = get_set_same rs k r (omega (arith, in'))

get_set_other : (rs : List Report) (j k : ℕ) (r : Report) → k ≢ j → slice_get (set rs j r) k ≡ slice_get rs k
get_set_other [] j k r ne = refl
get_set_other (x ∷ rs) zero zero r ne = absurd (ne refl)
get_set_other (x ∷ rs) zero (suc k) r ne = refl
get_set_other (x ∷ rs) (suc j) zero r ne = refl
get_set_other (x ∷ rs) (suc j) (suc k) r ne = get_set_other rs j k r (λ e. ne (ap suc e))

length_set : (rs : List Report) (k : ℕ) (r : Report) → length (set rs k r) ≡ length rs
length_set [] k r = refl
length_set (x ∷ rs) zero r = refl
length_set (x ∷ rs) (suc k) r = ap suc (length_set rs k r)

pub length_placed : (rs : List Report) (runs : List Run) → length (placed rs runs) ≡ length rs
length_placed rs [] = refl
length_placed rs (run ∷ runs) = length_placed (set rs run.0 run.1) runs ∙ length_set rs run.0 run.1

-- an index whose number isn't among the runs keeps its report
kept : (rs : List Report) (runs : List Run) (k : ℕ) → times k (numbers_of runs) ≡ 0 → slice_get (placed rs runs) k ≡ slice_get rs k
kept rs [] k none = refl
kept rs (run ∷ runs) k none =
    let n = not_there k run.0 (numbers_of runs) none in
    kept (set rs run.0 run.1) runs k n.1 ∙ get_set_other rs run.0 k run.1 n.0

-- the report next to each number is in its place, where no number is twice
pub placed_once : (rs : List Report) (runs : List Run) (all : List Report) → all ≡ placed rs runs
    → ((k : ℕ) → times k (numbers_of runs) ≤ 1) → AllByRecursion (λ (run : Run). run.0 < length rs) runs
    → AllByRecursion (λ (run : Run). slice_get all run.0 ≡ Some run.1) runs
placed_once rs [] all e once below = tt
placed_once rs (run ∷ runs) all e once below =
    let rest = numbers_of runs in
    let none : times run.0 rest ≡ 0 = omega (arith, once run.0, one_more run.0 rest) in
    let same = length_set rs run.0 run.1 in (
      ap (λ (l : List Report). slice_get l run.0) e ∙ kept (set rs run.0 run.1) runs run.0 none ∙ get_set_same rs run.0 run.1 below.0,
      placed_once (set rs run.0 run.1) runs all e
          (λ k. omega (arith, once k))
          (subst (λ (n : ℕ). AllByRecursion (λ (run : Run). run.0 < n) runs) (sym same) below.1),
    )

-- a number that is there is that of a run
pub found : (P : Run → Type 0) (k : ℕ) (runs : List Run) → AllByRecursion P runs → 0 < times k (numbers_of runs)
    → (run : Run) × (run.0 ≡ k) × P run
found P k [] all there = absurd (omega (arith, there))
found P k (run ∷ runs) all there =
    let later = λ (h : 0 < times k (numbers_of runs)). found P k runs all.1 h in
    pick (times k (numbers_of runs)) refl later
  where
    pick : (n : ℕ) → times k (numbers_of runs) ≡ n
        → (0 < times k (numbers_of runs) → (other : Run) × (other.0 ≡ k) × P other)
        → (other : Run) × (other.0 ≡ k) × P other
    pick zero none later = (run, grind (arith, nat_tests, there, none), all.0)
    pick (suc n) some later = later (omega (arith, some))

pub times_before : (k from n : ℕ) → k < from → times k (numbers from n) ≡ 0
times_before k from zero less = refl
times_before k from (suc n) less = grind (arith, times_before k (from + 1) n (omega (arith, less)))

pub times_once : (k from n : ℕ) → from ≤ k → k < from + n → times k (numbers from n) ≡ 1
times_once k from zero low high = absurd (omega (arith, low, high))
times_once k from (suc n) low high = grind (arith, times_before k (from + 1) n, times_once k (from + 1) n)

pub times_few : (k from n : ℕ) → times k (numbers from n) ≤ 1
times_few k from zero = omega arith
times_few k from (suc n) = grind (arith, times_before k (from + 1) n, times_few k (from + 1) n)
