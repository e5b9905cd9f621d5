-- LabelWords: the label set that words of a command line write.
use Rattle.std.specs.Prelude.{◌≡◌, ◌≢◌, ◌==◌, ℕ, ◌⊎◌, List, [], ◌∷◌, None, map}
use Rattle.std.specs.List.{after_first, before_first}
use Rattle.std.specs.Str.{trim}
use Rattle.am_alerts.specs.Labels.{IsReadOf, read_fault}
use Rattle.am_alerts.specs.declared.labels.Label.{Label}
use Rattle.am_alerts.specs.declared.matcher.MatcherParts.{MatcherParts}
use Rattle.am_alerts.specs.declared.matcher.Operator.TheVariants.{Equal}
use Rattle.am_json.specs.MatcherText.{IsMatcherText}

-- the label of a matcher's name and value
abbrev pub label_of : MatcherParts → Label
label_of m = record { name = m.name; value = m.value }

-- a word is no matcher
abbrev pub IsNoMatcherText : List ℕ → Type 0
IsNoMatcherText word = (m : MatcherParts) → IsMatcherText word m → ⊥

-- a word that is no matcher has a name before its first `=`, and behind it a value, each between blanks
pub record IsPlainLabel (word : List ℕ) (label : Label) : Type 0 where
  pub no_matcher : IsNoMatcherText word
  pub name : label.name ≡ trim (before_first (λ b. b == 61) word)
  pub value : label.value ≡ trim (after_first (λ b. b == 61) word)

-- a word writes a matcher, or a label without quotes
abbrev pub IsWritten : List ℕ → MatcherParts → Type 0
IsWritten word m = IsMatcherText word m ⊎ ((m.op ≡ Equal) × IsPlainLabel word (label_of m))

-- a word writes a label: as a matcher for an equal value, or without quotes
abbrev pub IsLabelWord : List ℕ → MatcherParts → Type 0
IsLabelWord word m = (m.op ≡ Equal) × IsWritten word m

-- a word writes no label: it is no matcher, or one for other values
abbrev pub IsNoLabelWord : List ℕ → Type 0
IsNoLabelWord word = IsNoMatcherText word ⊎ ((m : MatcherParts) × IsMatcherText word m × (m.op ≢ Equal))

-- each word writes one of the labels, in order
abbrev pub WriteLabels : List (List ℕ) → List MatcherParts → Type 0
WriteLabels [] [] = Unit {0}
WriteLabels [] (m ∷ ms) = ⊥
WriteLabels (word ∷ words) [] = ⊥
WriteLabels (word ∷ words) (m ∷ ms) = IsLabelWord word m × WriteLabels words ms

-- one of the words does not
abbrev pub HasNoLabel : List (List ℕ) → Type 0
HasNoLabel [] = ⊥
HasNoLabel (word ∷ words) = IsNoLabelWord word ⊎ HasNoLabel words

-- the words write this label set
pub record AreLabels (words : List (List ℕ)) (labels : List Label) : Type 0 where
  pub parts : List MatcherParts
  pub written : WriteLabels words parts
  pub read : IsReadOf (map label_of parts) labels

-- the words write no label set: one writes no label, or the labels are no set
abbrev pub AreNoLabels : List (List ℕ) → Type 0
AreNoLabels words =
    HasNoLabel words ⊎ ((parts : List MatcherParts) × WriteLabels words parts × (read_fault (map label_of parts) ≢ None))
