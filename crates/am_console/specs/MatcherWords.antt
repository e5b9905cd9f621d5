-- MatcherWords: matchers that are written as texts.
use Rattle.std.specs.Prelude.{ℕ, ◌⊎◌, IsTrue, List, [], ◌∷◌}
use Rattle.am_alerts.specs.Matcher.{compares_texts}
use Rattle.am_alerts.specs.declared.matcher.MatcherParts.{MatcherParts}
use Rattle.am_json.specs.Configured.{IsSound}
use Rattle.am_json.specs.MatcherText.{IsMatcherText}
use Rattle.am_json.specs.Translated.{IsTranslatedFrom}

-- a text writes this matcher, with Go's syntax in its pattern
abbrev pub IsMatcherOf : List ℕ → MatcherParts → Type 0
IsMatcherOf text m = IsTranslatedFrom (IsMatcherText text) m

-- a text writes no matcher, unless it is one whose pattern needs a regex
abbrev pub IsNoMatcher : List ℕ → Type 0
IsNoMatcher text = (m : MatcherParts) → IsMatcherOf text m → IsSound m → IsTrue (compares_texts m) → ⊥

-- one of the texts does
abbrev pub HasNoMatcher : List (List ℕ) → Type 0
HasNoMatcher [] = ⊥
HasNoMatcher (text ∷ texts) = IsNoMatcher text ⊎ HasNoMatcher texts

-- each text writes one of the matchers, in order
abbrev pub WriteMatchers : List (List ℕ) → List MatcherParts → Type 0
WriteMatchers [] [] = Unit {0}
WriteMatchers [] (m ∷ ms) = ⊥
WriteMatchers (text ∷ texts) [] = ⊥
WriteMatchers (text ∷ texts) (m ∷ ms) = IsMatcherOf text m × WriteMatchers texts ms
