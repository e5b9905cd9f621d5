-- MatcherText: matchers that are written as one text, as amtool does.
use Rattle.std.specs.Prelude.{◌≡◌, ◌≢◌, ◌==◌, ◌||◌, ℕ, ◌<◌, Bool, true, false, List, [], ◌∷◌, ◌++◌, ◌⊎◌, Option, Some, None}
use Rattle.std.specs.Prelude.{length, option_map, slice_index, if◌then◌else◌}
use Rattle.std.specs.List.{position}
use Rattle.std.specs.Str.{IsTrimAscii}
use Rattle.am_alerts.specs.Matcher.{operator_text}
use Rattle.am_alerts.specs.declared.matcher.MatcherParts.{MatcherParts}
use Rattle.am_alerts.specs.declared.matcher.Operator.TheVariants.{Equal}

-- whether a byte begins an operator: `=` or `!`
abbrev pub begins_operator : ℕ → Bool
begins_operator b = (b == 61) || (b == 33)

-- a text has no such byte
abbrev pub Lacks : ℕ → List ℕ → Type 0
Lacks byte text = (k : ℕ) → k < length text → slice_index text k ≢ byte

-- what is in the quotes of a value, or the value, where it has no quote and no comma
abbrev pub IsUnquoted : List ℕ → List ℕ → Type 0
IsUnquoted written inner = (written ≡ 34 ∷ (inner ++ 34 ∷ [])) ⊎ ((inner ≡ written) × Lacks 34 written × Lacks 44 written)

-- what a backslash and the byte behind it represent: a line feed, a quote or a backslash, or else themselves
abbrev pub escape_of : ℕ → List ℕ
escape_of b = if b == 110 then 10 ∷ [] else (if (b == 34) || (b == 92) then b ∷ [] else 92 ∷ b ∷ [])

-- what a text with escapes represents, where it comes behind a backslash or doesn't. A quote has a backslash before it, and a backslash
-- something behind it
abbrev pub unescaped : Bool → List ℕ → Option (List ℕ)
unescaped true [] = None
unescaped false [] = Some []
unescaped true (b ∷ bs) = option_map (λ rest. escape_of b ++ rest) (unescaped false bs)
unescaped false (b ∷ bs) =
    if b == 92 then unescaped true bs else (if b == 34 then None else option_map (λ rest. b ∷ rest) (unescaped false bs))

-- the text of a matcher: a name, an operator, which begins with the first `=` or `!` and is as long as it can be, and a value, each
-- between ASCII blanks
pub record IsMatcherText (text : List ℕ) (m : MatcherParts) : Type 0 where
  pub name : List ℕ
  pub value : List ℕ
  pub written : List ℕ
  pub inner : List ℕ
  pub is : text ≡ name ++ (operator_text m.op ++ value)
  pub begins : position begins_operator text ≡ Some (length name)
  pub longest : m.op ≡ Equal → slice_index value 0 ≢ 126
  pub named : IsTrimAscii name m.name
  pub trimmed : IsTrimAscii value written
  pub unquoted : IsUnquoted written inner
  pub holds : unescaped false inner ≡ Some m.value
