use Rattle.std.proofs.Common.{◌∙◌, sym}
use Rattle.serde_json.specs.View.{view}
use Rattle.am_alerts.specs.Matcher.{operator_text}
use Rattle.am_json.specs.Configured.{IsMatcher}
use Rattle.am_json.proofs.Decoding.{handed_on}
use Rattle.am_json.proofs.Once.{same_operator}
use Rattle.am_json.proofs.matcher.three_texts.Goals as goal

pub returns-in_err-name-clause-refused : goal.returns-in_err-name-clause-refused
returns-in_err-name-clause-refused c =
    handed_on (IsMatcher (view c.args.reader.now.value)) c.from_residual.result c.in_err-name.field-0.0 c.from_residual.ensures.1
    (λ refusal m decoded. c.in_err-name.ensures.no_texts m.name (operator_text m.op) m.value decoded)

-- a text that is no operator
pub returns-in_default-clause-refused : goal.returns-in_default-clause-refused
returns-in_default-clause-refused c refusal m decoded =
    c.in_default.ensures m.op (same_operator m _ _ _ (sym decoded ∙ c.in_ok-name.ensures.texts))
