-- Patterns that are plain texts with bars between them, as `critical|warning`. Nearly all patterns of real settings are.
use Rattle.std.specs.Prelude.{ℕ, Bool, not, ◌&&◌, ◌||◌, ◌==◌, nat_eq, nat_lt, List}
use Rattle.std.specs.List.{list_all, list_any, slice_split}
use lib.Pointwise.{pointwise}
use Rattle.regex_syntax.specs.Reading.{◌∈◌}

-- an ASCII character that represents itself wherever it is outside brackets
abbrev pub is_plain : ℕ → Bool
is_plain c = nat_lt c 128 && not (c ∈ "\\.+*?()|[]{}^$")

-- such a character, or the bar between two texts
abbrev pub is_plain_or_bar : ℕ → Bool
is_plain_or_bar c = is_plain c || c == 0x7C

-- whether a pattern is plain texts with bars between them
abbrev pub is_plain_pattern : List ℕ → Bool
is_plain_pattern p = list_all is_plain_or_bar p

-- the texts between the bars
abbrev pub bar_texts : List ℕ → List (List ℕ)
bar_texts p = slice_split (λ c. c == 0x7C) p

-- whether a text is one of these
abbrev pub is_one_of : List (List ℕ) → List ℕ → Bool
is_one_of ws text = list_any (λ w. pointwise nat_eq w text) ws
