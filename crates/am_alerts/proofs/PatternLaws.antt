-- What it is that a pattern has a match in a text, and the worked rows.
use Rattle.std.proofs.Common.{◌≡◌, ◌↔◌, ℕ, true, List, Option, None, Some, length, refl, arith, IsCharBoundary}
use Rattle.regex_hir.proofs.AttemptLemmas.{cond_some}
use Rattle.regex_hir.proofs.FindLemmas.{IsFirst-of_first_between}
use Rattle.regex_hir.proofs.OptionLemmas.{value_of_IsSome}
use Rattle.regex_hir.specs.Find.{first_from}
use Rattle.regex_hir.specs.Looks.{holds, holds_between}
use Rattle.regex_hir.specs.Re.{attempt}
use Rattle.regex_hir.specs.Text.{is_boundary, byte_before, has_bytes_at, char_at}
use Rattle.regex_syntax.specs.Brackets.{Nested}
use Rattle.regex_syntax.specs.Grammar.{Names}
use Rattle.regex.proofs.ForCallers.{find_str_sound, find_str_complete}
use Rattle.regex.proofs.Utf8Lemmas.{IsCharBoundary-of_test}
use Rattle.regex.proofs.OnLiterals.{regex_on_literals}
use Rattle.regex.specs.Patterns.{Re, Match, Matches, find_str}
use Rattle.am_alerts.specs.Pattern.{MatchesSome, PatternsMatch, PatternRows, finds, read_pattern}

abbrev HasMatch : Re → List ℕ → Type 0
HasMatch re text = (i : ℕ) × (j : ℕ) × IsCharBoundary text i × Matches text re i j

of_found : (re : Re) (text : List ℕ) (m : Match) → find_str re text 0 ≡ Some m → HasMatch re text
unfolding find_str
of_found re text m e =
    let first = IsFirst-of_first_between _ 0 (length text) m e in (
      m.start,
      m.trace.end,
      IsCharBoundary-of_test text m.start first.to (cond_some (is_boundary text m.start) _ m.trace first.here).0,
      (find_str_sound re text 0 m e).1,
    )

both : (o : Option (Nested Re × Names)) (text : List ℕ) → (finds o text ≡ true) ↔ MatchesSome o text
both None text = (λ e. cc, λ m. absurd m)
both (Some found) text =
    let re = found.0.value in (
      λ e. let m = value_of_IsSome (find_str re text 0) e in of_found re text m.0 m.1,
      λ m. find_str_complete re text 0 m.0 m.1 (omega arith) m.2 m.3,
    )

pub patterns_match : PatternsMatch
patterns_match p text = both (read_pattern p) text

pub pattern_rows : PatternRows
unfolding regex_on_literals find_str first_from is_boundary attempt holds holds_between byte_before has_bytes_at char_at
pattern_rows = (refl, refl, refl, refl, refl, refl, refl)
