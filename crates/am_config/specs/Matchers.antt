-- The matchers of a route, or of one side of an inhibition rule, in each form that an `alertmanager.yml` has.
use Rattle.std.specs.Prelude.{◌≡◌, ◌==◌, ◌&&◌, ◌++◌, ℕ, Bool, true, false, not, List, [], ◌∷◌, Option, Some, None, IsSomeAnd, codes}
use Rattle.std.specs.Prelude.{if◌then◌else◌}
use Rattle.std.specs.Str.{trim}
use Rattle.serde_json.specs.Data.{Data, Items, no_items, item, Members, no_members, member, null, boolean, number, string, array, object}
use Rattle.serde_json.specs.Find.{as_array, as_str}
use Rattle.am_alerts.specs.declared.matcher.MatcherParts.{MatcherParts}
use Rattle.am_alerts.specs.declared.matcher.Operator.{Operator}
use Rattle.am_alerts.specs.declared.matcher.Operator.TheVariants.{Equal, Like}
use Rattle.am_json.specs.Decoding.{IsObject}
use Rattle.am_json.specs.MatcherText.{IsMatcherText}
use Rattle.am_json.specs.Translated.{IsTranslatedFrom}
use Rattle.am_config.specs.Said.{SaysOr, text_in}
use Rattle.am_config.specs.declared.matchers.MatcherMembers.{MatcherMembers}
use Rattle.am_config.specs.declared.matchers.Quoting.{Quoting}

-- the fields that hold matchers: an object of texts, an object of patterns, and an array of texts that hold matchers
pub record MatcherFields : Type 0 where
  pub equal : List ℕ
  pub like : List ℕ
  pub texts : List ℕ

-- the fields as the code has them
abbrev pub fields_of : MatcherMembers → MatcherFields
fields_of m = record { equal = m.equal.now; like = m.like.now; texts = m.texts.now }

-- ---- a text of matchers (labels.ParseMatchers)

-- the quotes behind a byte: a backslash keeps the next quote from opening or closing
abbrev pub quoting_behind : Quoting → ℕ → Quoting
quoting_behind q b =
    if b == 92 then record { is_open = q.is_open; is_escaped = not q.is_escaped }
    else (if (b == 34) && not q.is_escaped then record { is_open = not q.is_open; is_escaped = false }
    else record { is_open = q.is_open; is_escaped = false })

-- the quotes behind a text
abbrev pub quoting_after : Quoting → List ℕ → Quoting
quoting_after q [] = q
quoting_after q (b ∷ bs) = quoting_after (quoting_behind q b) bs

-- a text before the first of these
abbrev pub with_front : List ℕ → List (List ℕ) → List (List ℕ)
with_front text [] = []
with_front text (piece ∷ pieces) = (text ++ piece) ∷ pieces

-- the pieces of a comma and what is behind it: in quotes it is in a piece, else it ends one
abbrev pub at_comma : Bool → List (List ℕ) → List (List ℕ)
at_comma is_open next = if is_open then with_front (44 ∷ []) next else [] ∷ next

-- the pieces of a text: a comma outside quotes ends one
abbrev pub pieces : Quoting → List ℕ → List (List ℕ)
pieces q [] = [] ∷ []
pieces q (b ∷ bs) = if b == 44 then at_comma q.is_open (pieces q bs) else with_front (b ∷ []) (pieces (quoting_behind q b) bs)

-- a text, unless it is empty
abbrev pub unless_empty : List ℕ → List (List ℕ)
unless_empty [] = []
unless_empty (b ∷ bs) = (b ∷ bs) ∷ []

-- the last piece has no blanks around it, and is none if there is nothing else in it
abbrev pub trimmed : List (List ℕ) → List (List ℕ)
trimmed [] = []
trimmed (piece ∷ []) = unless_empty (trim piece)
trimmed (piece ∷ next ∷ pieces) = piece ∷ trimmed (next ∷ pieces)

-- a text without the byte with which it begins
abbrev pub without_first : ℕ → List ℕ → List ℕ
without_first b [] = []
without_first b (x ∷ xs) = if x == b then xs else x ∷ xs

-- a text without the byte with which it ends
abbrev pub without_last : ℕ → List ℕ → List ℕ
without_last b [] = []
without_last b (x ∷ []) = if x == b then [] else x ∷ []
without_last b (x ∷ y ∷ xs) = x ∷ without_last b (y ∷ xs)

-- a text without the braces around it
abbrev pub unbraced : List ℕ → List ℕ
unbraced text = without_last 125 (without_first 123 text)

-- no quotes are open
abbrev pub unquoted : Quoting
unquoted = record { is_open = false; is_escaped = false }

-- the texts of single matchers in a text, which can be in braces
abbrev pub matchers_in : List ℕ → List (List ℕ)
matchers_in text = trimmed (pieces unquoted (unbraced text))

-- a text of a matcher, whose pattern is Go's
abbrev pub IsTranslatedText : List ℕ → MatcherParts → Type 0
IsTranslatedText text m = IsTranslatedFrom (IsMatcherText text) m

-- each text is the matcher's of these parts
abbrev pub AreWritten : List (List ℕ) → List MatcherParts → Type 0
AreWritten [] [] = Unit {0}
AreWritten [] (m ∷ ms) = ⊥
AreWritten (text ∷ texts) [] = ⊥
AreWritten (text ∷ texts) (m ∷ ms) = IsTranslatedText text m × AreWritten texts ms

-- a text of an array, and its matchers
abbrev pub AreInText : Data → List MatcherParts → Type 0
AreInText value found = IsSomeAnd (as_str value) (λ text. AreWritten (matchers_in text) found)

-- the matchers of these texts: all of the first text, then all of the next
abbrev pub AreInTexts : Items → List MatcherParts → Type 0
AreInTexts no_items found = found ≡ []
AreInTexts (item value values) found = (own rest : List MatcherParts) × (found ≡ own ++ rest) × AreInText value own × AreInTexts values rest

-- the matchers of an array of texts
abbrev pub AreInArray : Data → List MatcherParts → Type 0
AreInArray value found = IsSomeAnd (as_array value) (λ texts. AreInTexts texts found)

-- ---- a value for each name

-- the text of a value: of a scalar, or the word for a flag
abbrev pub matched_text_in : Data → Option (List ℕ)
matched_text_in null = None
matched_text_in (boolean flag) = Some (if flag then codes "true" else codes "false")
matched_text_in (number n) = text_in (number n)
matched_text_in (string text) = Some text
matched_text_in (array _) = None
matched_text_in (object _) = None

-- the parts of a member: its name, this operator and the text of its value
abbrev pub IsWrittenPair : Operator → List ℕ → Data → MatcherParts → Type 0
IsWrittenPair op name value m = (m.name ≡ name) × (m.op ≡ op) × (matched_text_in value ≡ Some m.value)

-- a member is a matcher, whose pattern is Go's
abbrev pub IsPair : Operator → List ℕ → Data → MatcherParts → Type 0
IsPair op name value m = IsTranslatedFrom (IsWrittenPair op name value) m

-- the members are these matchers, one by one
abbrev pub ArePairs : Operator → Members → List MatcherParts → Type 0
ArePairs op no_members [] = Unit {0}
ArePairs op no_members (m ∷ ms) = ⊥
ArePairs op (member name value rest) [] = ⊥
ArePairs op (member name value rest) (m ∷ ms) = IsPair op name value m × ArePairs op rest ms

-- ---- all of them

-- the matchers of a route or of one side of a rule: those that labels equal, the patterns, and those of texts
pub record AreMatchers (fields : MatcherFields) (members : Members) (found : List MatcherParts) : Type 0 where
  pub equal : List MatcherParts
  pub like : List MatcherParts
  pub texts : List MatcherParts
  pub is : found ≡ (equal ++ like) ++ texts
  pub equal_are : SaysOr (IsObject (ArePairs Equal)) [] fields.equal members equal
  pub like_are : SaysOr (IsObject (ArePairs Like)) [] fields.like members like
  pub texts_are : SaysOr AreInArray [] fields.texts members texts
