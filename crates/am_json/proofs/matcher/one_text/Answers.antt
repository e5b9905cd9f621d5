use Rattle.std.proofs.Common.{◌≡◌, ℕ, List, Option, Some, None, MatchOption, sym, subst}
use Rattle.std.specs.Prelude.{IsSomeAnd}
use Rattle.serde_json.specs.Data.{Data}
use Rattle.serde_json.specs.Find.{as_str}
use Rattle.serde_json.specs.View.{view}
use Rattle.am_alerts.specs.declared.matcher.MatcherParts.{MatcherParts}
use Rattle.am_json.specs.MatcherText.{IsMatcherText}
use Rattle.am_json.proofs.Decoding.{handed_on}
use Rattle.am_json.proofs.matcher.one_text.Goals as goal

-- what is never refused
abbrev Decodes : Data → MatcherParts → Type 0
Decodes value m = IsSomeAnd (as_str value) (λ text. IsMatcherText text m)

-- the text of a matcher
text_of : (found : Option (List ℕ)) (text : List ℕ) (m : MatcherParts) → Some text ≡ found → IsSomeAnd found (λ t. IsMatcherText t m) → IsMatcherText text m
text_of found text m is decoded = subst (λ (o : Option (List ℕ)). IsSomeAnd o (λ t. IsMatcherText t m)) (sym is) decoded

none_of : (found : Option (List ℕ)) (m : MatcherParts) → None ≡ found → IsSomeAnd found (λ t. IsMatcherText t m) → ⊥
none_of found m is decoded = subst (λ (o : Option (List ℕ)). IsSomeAnd o (λ t. IsMatcherText t m)) (sym is) decoded

-- what is read of a text
abbrev Read : List ℕ → Option MatcherParts → Type 0
Read text parts = MatchOption parts ((m : MatcherParts) → IsMatcherText text m → ⊥) (IsMatcherText text)

parts_decoded : (text : List ℕ) (parts is : Option MatcherParts) → parts ≡ is → Read text parts → Read text is
parts_decoded text parts is same read = subst (Read text) same read

pub returns-in_err-text-clause-refused : goal.returns-in_err-text-clause-refused
returns-in_err-text-clause-refused c =
    let value = view c.args.reader.now.value in
    handed_on (Decodes value) c.from_residual.result c.in_err-text.field-0.0 c.from_residual.ensures.1
    (λ refusal m decoded. none_of (as_str value) m c.in_err-text.ensures.text decoded)

-- a text that is no matcher's
pub returns-in_default-clause-refused : goal.returns-in_default-clause-refused
returns-in_default-clause-refused c refusal m decoded =
    parts_decoded c.in_ok-text.field-0.now c.in_ok-parts.field-0 None c.in_default.is c.in_ok-parts.ensures m (text_of (as_str (view c.args.reader.now.value)) c.in_ok-text.field-0.now m c.in_ok-text.ensures.text decoded)
