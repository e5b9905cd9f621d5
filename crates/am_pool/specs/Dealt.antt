-- Dealt: the rule of the queue of job numbers. The taken and the remaining numbers are those that were put, each once.
use Rattle.std.specs.Prelude.{◌≡◌, ◌==◌, ◌<◌, nat_lt, ℕ, zero, suc, ◌+◌, List, [], ◌∷◌, ◌++◌, length, if◌then◌else◌}
use mathlib.Core.Option.{some}
use lib.ListN.{get_elem?}
use Rattle.am_pool.specs.declared.limits.TheConstants.{ALL_PARTS}
use Rattle.am_pool.specs.declared.queue.Hand.{Hand}

abbrev pub hand : ℕ → ℕ → List ℕ → Hand
hand parts put taken = record { parts = parts; put = put; taken = taken }

-- the weights of numbers, added up
abbrev pub weigh : (ℕ → ℕ) → List ℕ → ℕ
weigh h [] = 0
weigh h (x ∷ xs) = h x + weigh h xs

-- a number of each hand, added up
abbrev pub total : (Hand → ℕ) → List Hand → ℕ
total f [] = 0
total f (v ∷ vs) = f v + total f vs

-- so many numbers from this one on
abbrev pub numbers : ℕ → ℕ → List ℕ
numbers from zero = []
numbers from (suc n) = from ∷ numbers (from + 1) n

-- how often a number is in a list
abbrev pub times : ℕ → List ℕ → ℕ
times x xs = weigh (λ y. if y == x then 1 else 0) xs

-- once below a number, and never from there on
abbrev pub once_below : ℕ → ℕ → ℕ
once_below n k = if nat_lt k n then 1 else 0

-- the numbers up to one are gone, each into one hand, and the others are in the queue, in order
-- all parts are in hands, and a hand with a part knows how many numbers were put
pub record Dealt (items : List ℕ) (views : List Hand) : Type 0 where
  pub gone : ℕ
  pub left : items ≡ numbers gone (length items)
  pub parts : total (λ v. v.parts) views ≡ ALL_PARTS
  pub taken : (h : ℕ → ℕ) → total (λ v. weigh h v.taken) views ≡ weigh h (numbers 0 gone)
  pub put : (pass : ℕ) (v : Hand) → get_elem? views pass ≡ some v → 0 < v.parts → v.put ≡ gone + length items
  pub idle : (pass : ℕ) (v : Hand) → get_elem? views pass ≡ some v → v.parts ≡ 0 → v.taken ≡ []

-- a number was taken, which is one of those that were put; it is one more than before, and not yet more than were put
abbrev pub IsTake : Hand → ℕ → Hand → Type 0
IsTake v x w = (w ≡ hand v.parts v.put (v.taken ++ x ∷ [])) × (x < v.put) × (length v.taken < v.put)

-- whoever has every part took each number that was put once
abbrev pub IsAll : Hand → Type 0
IsAll v = v.parts ≡ ALL_PARTS → (h : ℕ → ℕ) → weigh h v.taken ≡ weigh h (numbers 0 v.put)

-- the same, where nothing is left
abbrev pub IsDrained : Hand → List ℕ → Type 0
IsDrained v items = length items ≡ 0 → IsAll v

-- under the rule, each number that was put is once in what all hands took and what is left, and no other is there
abbrev pub DealsEachOnce : Type 0
DealsEachOnce =
    (items : List ℕ) (views : List Hand) → Dealt items views
    → (pass : ℕ) (v : Hand) → get_elem? views pass ≡ some v → 0 < v.parts
    → (k : ℕ) → total (λ w. times k w.taken) views + times k items ≡ once_below v.put k
