use Rattle.std.proofs.Common.{true}
use Rattle.std.specs.Prelude.{IsTrue}
use Rattle.serde_json.specs.View.{view}
use Rattle.am_json.specs.Decoding.{IsText}
use Rattle.am_json.proofs.Decoding.{handed_on, no_text, starved}
use Rattle.am_json.proofs.reader.TextFromJson.read.Goals as goal

pub returns-in_err-text-clause-refused : goal.returns-in_err-text-clause-refused
returns-in_err-text-clause-refused c =
    let value = view c.args.reader.now.value in
    handed_on (λ text. IsText value text × IsTrue true) c.from_residual.result c.in_err-text.field-0.0 c.from_residual.ensures.1
    (λ refusal text decoded. no_text value text c.in_err-text.ensures.text decoded.0)

pub returns-in_err-new-clause-refused : goal.returns-in_err-new-clause-refused
returns-in_err-new-clause-refused c =
    starved (λ text. IsText (view c.args.reader.now.value) text × IsTrue true) c.from_residual-in_err-new.result c.from_residual-in_err-new.ensures.1
