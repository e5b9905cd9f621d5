-- How much a step writes.
use Rattle.std.specs.Prelude.{ℕ, ◌+◌, ◌*◌, ◌≤◌}

-- a step that reads this many characters writes at most 34 bytes, and 30 for each of them
abbrev pub MayGrow : ℕ → ℕ → ℕ → Type 0
MayGrow old new count = new ≤ old + 34 + 30 * count
