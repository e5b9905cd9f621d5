-- A regex that was built, and what the syntax of `regex` reads in its text.
use Rattle.std.proofs.Common.{◌≡◌, ℕ, ◌<◌, ◌≤◌, true, List, Option, None, Some, IsSomeAnd, is_some, get_or, length, arith}
use Rattle.std.proofs.lemmas.Bool.Decides.{nat_tests}
use Rattle.regex_syntax.specs.Brackets.{Nested}
use Rattle.regex_syntax.specs.Grammar.{Names, group_count}
use Rattle.regex.proofs.ForCallers.{is_match_alike}
use Rattle.regex.specs.Patterns.{Re, SameCaptures, Reads, find_str}
use Rattle.regex.specs.Strings.{regex_pattern, regex_names, regex_source}
use Rattle.regex.specs.declared.string.regex.Regex.{Regex}
use Rattle.am_alerts.specs.Pattern.{IsCompiled, finds, has_match, is_pattern, is_shallow, read_pattern}

-- what is read represents a pattern
abbrev IsReading : Re → Names → Option (Nested Re × Names) → Type 0
IsReading re names o =
    IsSomeAnd o (λ (found, others). (found.depth ≤ 250) × SameCaptures re found.value × (names ≡ others) × (group_count re ≤ length names))

reading : (r : Regex) → IsCompiled r → IsReading (regex_pattern r) (regex_names r) (read_pattern (regex_source r))
unfolding Reads
reading r (is_default, is_read) = rw is_default at is_read

finds_alike : (re : Re) (names : Names) (o : Option (Nested Re × Names)) → IsReading re names o →
    (text : List ℕ) → ((k : ℕ) → get_or text k 0 < 256) → is_some (find_str re text 0) ≡ finds o text
finds_alike re names None is text bytes = absurd is
finds_alike re names (Some found) is text bytes = is_match_alike is.1 text bytes true 0

shallow : (re : Re) (names : Names) (o : Option (Nested Re × Names)) → IsReading re names o → is_shallow o ≡ true
shallow re names None is = absurd is
shallow re names (Some found) is = grind (arith, nat_tests, is.0)

-- its text is a pattern
pub is_pattern-compiled : (r : Regex) → IsCompiled r → is_pattern (regex_source r) ≡ true
is_pattern-compiled r compiled = shallow _ _ _ (reading r compiled)

-- a search for it finds what its text represents
pub has_match-compiled : (r : Regex) → IsCompiled r → (text : List ℕ) → ((k : ℕ) → get_or text k 0 < 256) →
    is_some (find_str (regex_pattern r) text 0) ≡ has_match (regex_source r) text
has_match-compiled r compiled = finds_alike _ _ _ (reading r compiled)
