use Rattle.std.proofs.Common.{true}
use Rattle.std.specs.Prelude.{IsTrue}
use Rattle.serde_json.specs.View.{view}
use Rattle.am_retry.specs.declared.outcome.Answer.{Answer}
use Rattle.am_json.specs.Decoding.{IsAnswer, answer_text}
use Rattle.am_json.proofs.Decoding.{handed_on, no_text}
use Rattle.am_json.proofs.answer.AnswerFromJson.read.Goals as goal

pub returns-in_err-text-clause-refused : goal.returns-in_err-text-clause-refused
returns-in_err-text-clause-refused c =
    let value = view c.args.reader.now.value in
    handed_on (λ (answer : Answer). IsAnswer value answer × IsTrue true) c.from_residual.result c.in_err-text.field-0.0 c.from_residual.ensures.1
    (λ refusal answer decoded. no_text value (answer_text answer) c.in_err-text.ensures.text decoded.0)
