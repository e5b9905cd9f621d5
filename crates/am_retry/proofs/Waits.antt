-- How long a wait is.
use Rattle.std.proofs.Common.{ℕ, zero, suc, ◌≤◌, arith}
use Rattle.am_retry.specs.Attempts.{wait_of}

-- no wait is shorter than the first
pub wait_of-least : (j : ℕ) → 500 ≤ wait_of j
wait_of-least zero = omega arith
wait_of-least (suc j) = omega (arith, wait_of-least j)

pub wait_of-most : (j : ℕ) → wait_of j ≤ 60_000
wait_of-most zero = omega arith
wait_of-most (suc j) = omega (arith, wait_of-most j)
