use Rattle.std.proofs.Common.{◌≡◌, ◌∙◌, false, ℕ, Option, Some, None, ap, is_some, sym}
use Rattle.std.proofs.lemmas.Bool.{false≢true}
use Rattle.serde_json.specs.Data.{Data}
use Rattle.serde_json.specs.Find.{as_null}
use Rattle.serde_json.specs.View.{view}
use Rattle.am_json.proofs.Decoding.{handed_on}
use Rattle.am_protocol.specs.Time.{IsEnd, time_in}
use Rattle.am_protocol.proofs.time.end.Goals as goal

no_end : (value : Data) (end : Option ℕ) → is_some (as_null value) ≡ false → None ≡ time_in value → IsEnd value end → ⊥
no_end value None other none is = false≢true (sym other ∙ ap is_some is)
no_end value (Some end) other none is = absurd (cc)

pub returns-in_err-time-clause-refused : goal.returns-in_err-time-clause-refused
returns-in_err-time-clause-refused c =
    handed_on (λ (end : Option ℕ). IsEnd (view c.args.member.now.value) end) c.from_residual.result c.in_err-time.field-0.0 c.from_residual.ensures.1
    (λ refusal end is. no_end (view c.args.member.now.value) end (sym c.is_null.ensures ∙ c.if-is_null.false) c.in_err-time.ensures is)
