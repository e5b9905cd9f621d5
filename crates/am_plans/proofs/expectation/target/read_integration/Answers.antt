use Rattle.std.proofs.Common.{◌≡◌, ◌<◌, ◌∙◌, ℕ, false, List, Option, Some, None, MatchOption, ap, arith, is_some, sym}
use Rattle.serde_json.specs.Data.{Data}
use Rattle.serde_json.specs.Find.{as_str}
use Rattle.serde_json.specs.View.{view}
use Rattle.am_json.proofs.Decoding.{handed_on, starved}
use Rattle.am_json.specs.Read.{number_in}
use Rattle.am_model.specs.declared.config.TheConstants.{MAX_INTEGRATIONS}
use Rattle.am_plans.proofs.Decodings.{is_there}
use Rattle.am_plans.specs.declared.target.TheConstants.{LAST_POSITION}
use Rattle.am_plans.specs.Expected.{IsSplit, IsTargetOf}
use Rattle.am_plans.proofs.expectation.target.read_integration.Goals as goal

abbrev Decodes : Data → Option (List ℕ) × Option ℕ → Type 0
Decodes value t = IsTargetOf value t.0 t.1

no_number : (P : Type 0) (Q : ℕ → Type 0) (o : Option ℕ) (p : ℕ) → MatchOption o P (λ n. (LAST_POSITION < n) × Q n) → o ≡ Some p → p < MAX_INTEGRATIONS → ⊥
no_number P Q None p refused is few = absurd (cc)
no_number P Q (Some n) p refused is few = let same : n ≡ p = cc in absurd (omega (arith, refused.0, few, same))

-- what is no text says a position alone
position_of : (value : Data) (kind : Option (List ℕ)) (position : Option ℕ) → is_some (as_str value) ≡ false → IsTargetOf value kind position
    → (p : ℕ) × (number_in value ≡ Some p) × (p < MAX_INTEGRATIONS)
position_of value None None other decoded = absurd decoded
position_of value None (Some p) other decoded = (p, decoded.0, decoded.1)
position_of value (Some k) position other decoded =
    absurd (cc (is_there (λ text. IsSplit text k position) (as_str value) decoded, other))

pub returns-in_err-position-clause-refused : goal.returns-in_err-position-clause-refused
returns-in_err-position-clause-refused c =
    let value = view c.args.member.now.value in
    handed_on (Decodes value) c.from_residual.result c.in_err-position.field-0.0 c.from_residual.ensures.1
    (λ refusal t decoded.
    let said = position_of value t.0 t.1 (sym c.is_text.ensures ∙ c.if-not-is_text.true) decoded in
    no_number _ _ (number_in value) said.0 c.in_err-position.ensures.refused said.1 said.2)

pub returns-in_err-text-clause-refused : goal.returns-in_err-text-clause-refused
returns-in_err-text-clause-refused c =
    handed_on (Decodes (view c.args.member.now.value)) c.from_residual-in_err-text.result c.in_err-text.field-0.0 c.from_residual-in_err-text.ensures.1
    (λ refusal t decoded. absurd (cc (ap is_some c.in_err-text.ensures.text, c.is_text.ensures, c.if-not-is_text.false)))

pub returns-in_err-new-clause-refused : goal.returns-in_err-new-clause-refused
returns-in_err-new-clause-refused c = starved (Decodes (view c.args.member.now.value)) c.from_residual-in_err-new.result c.from_residual-in_err-new.ensures.1
