-- Values of matchers for patterns of Go's.
use Rattle.std.specs.Prelude.{◌≡◌, ◌≤◌, ◌*◌, ℕ, Bool, true, false, List, ◌++◌, chars, codes, length}
use Rattle.std.specs.Prelude.{Option, None, Some, String, string_bytes, IsTrue}
use Rattle.std.specs.Global.{Global}
use Rattle.am_patterns.specs.Simple.{is_simple}

-- the pattern that takes a text as a whole, `^(?:p)$`
abbrev pub anchored : List ℕ → List ℕ
anchored p = codes "^(?:" ++ p ++ codes ")$"

-- a group of a pattern, `(?:p)`
abbrev pub grouped : List ℕ → List ℕ
grouped p = codes "(?:" ++ p ++ codes ")"

-- 64 bytes for each character of `^(?:p)$`
abbrev pub greatest_length : List ℕ → ℕ
greatest_length p = 64 * length (chars (anchored p))

-- the value for a pattern that is simple, or isn't
abbrev pub IsTranslationIf : Bool → List ℕ → List ℕ → Type 0
IsTranslationIf true p value = value ≡ p
IsTranslationIf false p value = (is_simple value ≡ false) × (length value ≤ greatest_length p)

-- the value that a matcher has for a pattern p of Go's: p itself if it is simple, or else a value that isn't simple and not too long
abbrev pub IsTranslation : List ℕ → List ℕ → Type 0
IsTranslation p value = IsTranslationIf (is_simple p) p value

-- the value that was made for a pattern p, where it isn't p itself
abbrev pub IsValue : List ℕ → Option (String Global) → Type 0
IsValue p None = IsTrue (is_simple p)
IsValue p (Some value) = IsTranslation p (string_bytes value)
