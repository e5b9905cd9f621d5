use Rattle.serde_json.specs.View.{view}
use Rattle.am_json.proofs.Decoding.{handed_on, no_text}
use Rattle.am_protocol.specs.Request.{IsOutcome, outcome_word}
use Rattle.am_protocol.proofs.request.read_outcome.Goals as goal

pub returns-in_err-text-clause-refused : goal.returns-in_err-text-clause-refused
returns-in_err-text-clause-refused c =
    handed_on (IsOutcome (view c.args.reader.now.value)) c.from_residual.result c.in_err-text.field-0.0 c.from_residual.ensures.1
    (λ refusal x decoded. no_text (view c.args.reader.now.value) (outcome_word x) c.in_err-text.ensures.text decoded)
