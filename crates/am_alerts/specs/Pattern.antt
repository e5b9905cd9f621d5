-- Patterns: regular expressions in the syntax of the crate `regex`.
use Rattle.std.specs.Prelude.{◌≡◌, ◌↔◌, ℕ, Bool, true, false, List, [], ◌++◌, Option, None, Some, IsSomeAnd, IsCharBoundary, codes, chars}
use Rattle.std.specs.Prelude.{is_some, nat_le}
use Rattle.regex.specs.Patterns.{Re, Matches, find_str, default_config}
use Rattle.regex.specs.Strings.{matcher_pattern, regex_config, regex_pattern, IsReadFromSource}
use Rattle.regex.specs.declared.string.matcher.Matcher.{Matcher}
use Rattle.regex.specs.declared.string.regex.Regex.{Regex}
use Rattle.regex_syntax.specs.Grammar.{Names, read}
use Rattle.regex_syntax.specs.Brackets.{Nested}

-- the pattern that takes a text as a whole, `^(?:p)$`
abbrev pub anchored : List ℕ → List ℕ
anchored p = codes "^(?:" ++ p ++ codes ")$"

-- what the syntax of `regex` reads in a pattern's text, with its default options
abbrev pub read_pattern : List ℕ → Option (Nested Re × Names)
read_pattern p = read default_config (chars p)

-- whether what was read isn't nested deeper than `regex` takes
abbrev pub is_shallow : Option (Nested Re × Names) → Bool
is_shallow None = false
is_shallow (Some (re, names)) = nat_le re.depth default_config.nest_limit

-- whether a text is a pattern
abbrev pub is_pattern : List ℕ → Bool
is_pattern p = is_shallow (read_pattern p)

-- whether what was read has a match in a text
abbrev pub finds : Option (Nested Re × Names) → List ℕ → Bool
finds None text = false
finds (Some (re, names)) text = is_some (find_str re.value text 0)

-- match of a pattern: whether the pattern that a text represents has a match in another one
abbrev pub has_match : List ℕ → List ℕ → Bool
has_match p text = finds (read_pattern p) text

-- a regex is its text, read with the default options
abbrev pub IsCompiled : Regex → Type 0
IsCompiled r = (regex_config r ≡ default_config) × IsReadFromSource r

-- what searches is for the pattern of a regex
abbrev pub SearchesFor : Regex → Matcher → Type 0
SearchesFor r m = IsCompiled r × (matcher_pattern m ≡ regex_pattern r)

-- a pattern matches a part of a text that begins between characters, up to some index
abbrev pub MatchesSome : Option (Nested Re × Names) → List ℕ → Type 0
MatchesSome o text = IsSomeAnd o (λ (re, _). (i : ℕ) × (j : ℕ) × IsCharBoundary text i × Matches text re.value i j)

-- law: a search finds a match exactly where there is one
abbrev pub PatternsMatch : Type 0
PatternsMatch = (p text : List ℕ) → (has_match p text ≡ true) ↔ MatchesSome (read_pattern p) text

-- law: the worked rows of patterns
abbrev pub PatternRows : Type 0
PatternRows =
    (has_match (anchored (codes "db|web")) (codes "db") ≡ true)
    × (has_match (anchored (codes "db|web")) (codes "dbx") ≡ false)
    × (has_match (anchored (codes "db|web")) [] ≡ false)
    × (has_match (anchored (codes ".*")) [] ≡ true)
    × (has_match (anchored (codes "d")) (codes "db") ≡ false)
    × (has_match (anchored (codes "a)|(?:b")) (codes "ax") ≡ true)
    × (is_pattern (anchored (codes "a(")) ≡ false)
