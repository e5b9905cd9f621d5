-- Groups that aren't simple.
use Rattle.std.proofs.Common.{◌≡◌, ℕ, false, List, refl}
use Rattle.am_patterns.specs.Simple.{behind, behind_plain, is_simple}
use Rattle.am_patterns.specs.Translation.{grouped}

-- a question mark has nothing to repeat behind a parenthesis
pub grouped_not_simple : (p : List ℕ) → is_simple (grouped p) ≡ false
unfolding behind behind_plain
grouped_not_simple p = refl
