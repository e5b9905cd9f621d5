-- Matchers of Alertmanager's texts. Their patterns are Go's, and become those of the crate `regex`.
use Rattle.std.specs.Prelude.{◌≡◌, ℕ, Bool, true, false, List}
use Rattle.am_alerts.specs.Matcher.{takes_text}
use Rattle.am_alerts.specs.declared.matcher.MatcherParts.{MatcherParts}
use Rattle.am_patterns.specs.Translation.{IsTranslation}

-- the value that a matcher has for a text: the text itself where its operator takes one, or else the translation of a pattern
abbrev pub IsValueIf : Bool → List ℕ → List ℕ → Type 0
IsValueIf true text value = value ≡ text
IsValueIf false text value = IsTranslation text value

-- m is made of written parts: it has their name, their operator and the value for their text
pub record IsTranslated (written m : MatcherParts) : Type 0 where
  pub name : m.name ≡ written.name
  pub op : m.op ≡ written.op
  pub value : IsValueIf (takes_text written.op) written.value m.value

-- m is made of parts that are written so
pub record IsTranslatedFrom (IsWritten : MatcherParts → Type 0) (m : MatcherParts) : Type 0 where
  pub written : MatcherParts
  pub is : IsWritten written
  pub translated : IsTranslated written m
