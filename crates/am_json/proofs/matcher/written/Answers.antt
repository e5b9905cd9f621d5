use Rattle.std.proofs.Common.{◌≡◌, ◌∙◌, ℕ, List, Option, Some, None, MatchOption, true, false, is_some, sym}
use Rattle.std.proofs.lemmas.Result.{IfOk-weaker}
use Rattle.std.specs.Prelude.{IsSomeAnd}
use Rattle.serde_json.specs.Data.{Data}
use Rattle.serde_json.specs.Find.{as_str}
use Rattle.serde_json.specs.View.{view}
use Rattle.am_alerts.specs.declared.matcher.MatcherParts.{MatcherParts}
use Rattle.am_json.specs.Configured.{IsMatcher, IsWritten}
use Rattle.am_json.specs.MatcherText.{IsMatcherText}
use Rattle.am_json.proofs.Decoding.{narrowed}
use Rattle.am_json.proofs.matcher.written.Goals as goal

-- what a text says
abbrev Text : Data → MatcherParts → Type 0
Text value m = IsSomeAnd (as_str value) (λ text. IsMatcherText text m)

as_text : (found : Option (List ℕ)) (three : Type 0) (m : MatcherParts) → IsSomeAnd found (λ t. IsMatcherText t m)
    → MatchOption found three (λ t. IsMatcherText t m)
as_text None three m decoded = absurd decoded
as_text (Some t) three m decoded = decoded

of_text : (found : Option (List ℕ)) (three : Type 0) (m : MatcherParts) → is_some found ≡ true → MatchOption found three (λ t. IsMatcherText t m)
    → IsSomeAnd found (λ t. IsMatcherText t m)
of_text None three m text decoded = absurd (cc)
of_text (Some t) three m text decoded = decoded

as_three : (found : Option (List ℕ)) (three : Type 0) (m : MatcherParts) → is_some found ≡ false → three → MatchOption found three (λ t. IsMatcherText t m)
as_three None three m none decoded = decoded
as_three (Some t) three m none decoded = absurd (cc)

of_three : (found : Option (List ℕ)) (three : Type 0) (m : MatcherParts) → is_some found ≡ false → MatchOption found three (λ t. IsMatcherText t m) → three
of_three None three m none decoded = decoded
of_three (Some t) three m none decoded = absurd (cc)

pub returns-then-is_text-clause-decoded : goal.returns-then-is_text-clause-decoded
returns-then-is_text-clause-decoded c =
    let value = view c.args.reader.now.value in
    IfOk-weaker c.one_text.result _ _ (λ m decoded. as_text (as_str value) (IsMatcher value m) m decoded) c.one_text.ensures.decoded

pub returns-clause-decoded : goal.returns-clause-decoded
returns-clause-decoded c =
    let value = view c.args.reader.now.value in
    IfOk-weaker c.three_texts.result _ _
    (λ m decoded. as_three (as_str value) (IsMatcher value m) m (sym c.is_text.ensures ∙ c.if-is_text.false) decoded) c.three_texts.ensures.decoded

pub returns-then-is_text-clause-refused : goal.returns-then-is_text-clause-refused
returns-then-is_text-clause-refused c =
    let value = view c.args.reader.now.value in
    narrowed (Text value) (IsWritten value)
    (λ m decoded. of_text (as_str value) (IsMatcher value m) m (sym c.is_text.ensures ∙ c.if-is_text.true) decoded)
    c.one_text.result c.one_text.ensures.refused

pub returns-clause-refused : goal.returns-clause-refused
returns-clause-refused c =
    let value = view c.args.reader.now.value in
    narrowed (IsMatcher value) (IsWritten value)
    (λ m decoded. of_three (as_str value) (IsMatcher value m) m (sym c.is_text.ensures ∙ c.if-is_text.false) decoded)
    c.three_texts.result c.three_texts.ensures.refused
