-- Inserts by which no group is due earlier.
use Rattle.std.proofs.Common.{◌≡◌, ◌≤◌, ◌+◌, ℕ, Bool, true, false, cond, refl, ap}
use Rattle.std.specs.Prelude.{min, nat_lt}
use Rattle.std.proofs.Math.Nat.{min-eq_left}
use Rattle.std.proofs.lemmas.Bool.{le-ltb}
use Rattle.am_desk.specs.Waits.{hastened}

cond_same : (b : Bool) (x y : ℕ) → x ≡ y → cond b x y ≡ y
cond_same true x y e = e
cond_same false x y e = refl

-- where a wait that counts from the alert's start isn't over
pub not_over : (starts wait t due : ℕ) → t ≤ starts + wait → hastened starts wait t due ≡ due
not_over starts wait t due le = ap (λ (b : Bool). cond b (min due t) due) (le-ltb (starts + wait) t le)

-- where the group is due by then
pub due_before : (starts wait t due : ℕ) → due ≤ t → hastened starts wait t due ≡ due
due_before starts wait t due le = cond_same (nat_lt (starts + wait) t) (min due t) due (min-eq_left le)
