-- Matchers that meet many label sets, and the patterns that have something to search for them.
use Rattle.std.specs.Prelude.{◌≡◌, ◌<◌, ℕ, List, [], ◌∷◌, ◌++◌, length, take, slice_index_or, Option, Some, None, ◌==◌, if◌then◌else◌}
use Rattle.std.specs.List.{filter_map}
use Rattle.am_alerts.specs.Matcher.{pattern_of}
use Rattle.am_alerts.specs.declared.matcher.MatcherParts.{MatcherParts}

-- the patterns that these matchers look for, in their order
abbrev pub patterns_of : List MatcherParts → List (List ℕ)
patterns_of ms = filter_map pattern_of ms

-- these are the patterns of the first of the matchers that have one
abbrev pub AreFirstPatterns : List (List ℕ) → List MatcherParts → Type 0
AreFirstPatterns patterns ms = patterns ≡ take (length patterns) (patterns_of ms)

-- what is at an index of a list is this pattern, unless the list ends before
abbrev pub IsAt : ℕ → List (List ℕ) → List ℕ → Type 0
IsAt index patterns p = index < length patterns → slice_index_or patterns index [] ≡ p

-- the patterns with one more behind them, if its index is there
abbrev pub with_pattern : List ℕ → ℕ → List (List ℕ) → List (List ℕ)
with_pattern p index patterns = if index == length patterns then patterns ++ p ∷ [] else patterns

-- the same of a matcher's pattern, if it has one
abbrev pub with_pattern_of : Option (List ℕ) → ℕ → List (List ℕ) → List (List ℕ)
with_pattern_of None index patterns = patterns
with_pattern_of (Some p) index patterns = with_pattern p index patterns
