use Rattle.std.proofs.Common.{ℕ, List}
use Rattle.serde_json.specs.Data.{Members}
use Rattle.serde_json.specs.View.{members_view}
use Rattle.am_json.proofs.Decoding.{handed_on}
use Rattle.am_json.specs.declared.reader.Mode.{Mode}
use Rattle.am_plans.specs.Expected.{IsExpectedOf, HasNoRegex}
use Rattle.am_terms.specs.declared.expectation.Expectation.{Expectation}
use Rattle.am_terms.specs.declared.rehearsal.TimedAction.{TimedAction}
use Rattle.am_plans.proofs.expectation.read_members.Goals as goal

-- what is never refused
abbrev Decodes : Mode → ℕ → ℕ → List TimedAction → Members → Expectation → Type 0
Decodes mode until last plans members x = IsExpectedOf mode until last plans members x × HasNoRegex mode members

pub returns-clause-decoded : goal.returns-clause-decoded
returns-clause-decoded c = record {
  name = c.in_ok-name.ensures.decoded;
  span = c.in_ok-from.ensures.decoded;
  receiver = c.in_ok-receiver.ensures.decoded;
  integration = c.in_ok-kind.ensures.decoded;
  content = c.in_ok-content.ensures.decoded;
  amount = c.in_ok-amount.ensures.decoded;
}

pub returns-in_err-name-clause-refused : goal.returns-in_err-name-clause-refused
returns-in_err-name-clause-refused c =
    handed_on (Decodes c.args.item.now.mode c.args.until c.args.last c.args.plans.now (members_view c.args.item.now.members)) c.from_residual.result c.in_err-name.field-0.0 c.from_residual.ensures.1
    (λ refusal x decoded. c.in_err-name.ensures.refused refusal x.name decoded.0.name)

pub returns-in_err-from-clause-refused : goal.returns-in_err-from-clause-refused
returns-in_err-from-clause-refused c =
    handed_on (Decodes c.args.item.now.mode c.args.until c.args.last c.args.plans.now (members_view c.args.item.now.members)) c.from_residual-in_err-from.result c.in_err-from.field-0.0 c.from_residual-in_err-from.ensures.1
    (λ refusal x decoded. c.in_err-from.ensures.refused refusal (x.from, x.to) (decoded.0.span, decoded.1.of))

pub returns-in_err-receiver-clause-refused : goal.returns-in_err-receiver-clause-refused
returns-in_err-receiver-clause-refused c =
    handed_on (Decodes c.args.item.now.mode c.args.until c.args.last c.args.plans.now (members_view c.args.item.now.members)) c.from_residual-in_err-receiver.result c.in_err-receiver.field-0.0 c.from_residual-in_err-receiver.ensures.1
    (λ refusal x decoded. c.in_err-receiver.ensures.refused refusal x.receiver decoded.0.receiver)

pub returns-in_err-kind-clause-refused : goal.returns-in_err-kind-clause-refused
returns-in_err-kind-clause-refused c =
    handed_on (Decodes c.args.item.now.mode c.args.until c.args.last c.args.plans.now (members_view c.args.item.now.members)) c.from_residual-in_err-kind.result c.in_err-kind.field-0.0 c.from_residual-in_err-kind.ensures.1
    (λ refusal x decoded. c.in_err-kind.ensures.refused refusal (x.kind, x.integration) decoded.0.integration)

pub returns-in_err-content-clause-refused : goal.returns-in_err-content-clause-refused
returns-in_err-content-clause-refused c =
    handed_on (Decodes c.args.item.now.mode c.args.until c.args.last c.args.plans.now (members_view c.args.item.now.members)) c.from_residual-in_err-content.result c.in_err-content.field-0.0 c.from_residual-in_err-content.ensures.1
    (λ refusal x decoded. c.in_err-content.ensures.refused refusal x.content (decoded.0.content, decoded.1))

pub returns-in_err-amount-clause-refused : goal.returns-in_err-amount-clause-refused
returns-in_err-amount-clause-refused c =
    handed_on (Decodes c.args.item.now.mode c.args.until c.args.last c.args.plans.now (members_view c.args.item.now.members)) c.from_residual-in_err-amount.result c.in_err-amount.field-0.0 c.from_residual-in_err-amount.ensures.1
    (λ refusal x decoded. c.in_err-amount.ensures.refused refusal x.amount decoded.0.amount)
