use Rattle.std.proofs.Common.{sym, true}
use Rattle.std.specs.Prelude.{IsTrue}
use Rattle.serde_json.specs.Data.{Data}
use Rattle.serde_json.specs.Find.{as_object}
use Rattle.serde_json.specs.View.{members_view, view}
use Rattle.am_json.proofs.Decoding.{as_decoded, handed_on, in_object, missing, unknown}
use Rattle.am_json.specs.declared.reader.Mode.{Mode}
use Rattle.am_protocol.specs.Request.{DecodesToNoting, HasNoting}
use Rattle.am_protocol.specs.declared.request.Noting.{Noting}
use Rattle.am_protocol.proofs.request.NotingFromJson.read.Goals as goal

-- what is never refused
abbrev Decodes : Mode → Data → Noting → Type 0
Decodes mode value x = DecodesToNoting mode value x × IsTrue true

pub returns-clause-decoded : goal.returns-clause-decoded
returns-clause-decoded c =
    let o = c.in_ok-call.call in
    let members = members_view o.members in
    let x : Noting = record { now = c.in_ok-now_at.field-0; ticket = c.in_ok-number_at.field-0; integration = c.in_ok-position_at.field-0 } in
    let has : HasNoting o.mode members x = record {
      only = sym c.in_ok-only.ensures.known;
      now = c.in_ok-now_at.ensures.decoded;
      ticket = c.in_ok-number_at.ensures.decoded;
      integration = c.in_ok-position_at.ensures.decoded;
    } in
    as_decoded HasNoting c.args.reader.now.mode o.mode members (view c.args.reader.now.value) x c.in_ok-call.ensures.members c.in_ok-call.ensures.mode has

pub returns-in_err-call-clause-refused : goal.returns-in_err-call-clause-refused
returns-in_err-call-clause-refused c =
    handed_on (Decodes c.args.reader.now.mode (view c.args.reader.now.value)) c.from_residual.result c.in_err-call.field-0.0 c.from_residual.ensures.1
    (λ refusal x decoded. missing (λ ms. HasNoting c.args.reader.now.mode ms x) (as_object (view c.args.reader.now.value)) c.in_err-call.ensures.members decoded.0)

pub returns-in_err-only-clause-refused : goal.returns-in_err-only-clause-refused
returns-in_err-only-clause-refused c =
    handed_on (Decodes c.args.reader.now.mode (view c.args.reader.now.value)) c.from_residual-in_err-only.result c.in_err-only.field-0.0 c.from_residual-in_err-only.ensures.1
    (λ refusal x decoded. unknown _ c.in_err-only.ensures.known (in_object HasNoting c.args.reader.now.mode c.in_ok-call.call.mode (members_view c.in_ok-call.call.members) (view c.args.reader.now.value) x c.in_ok-call.ensures.members c.in_ok-call.ensures.mode decoded.0).only)

pub returns-in_err-now_at-clause-refused : goal.returns-in_err-now_at-clause-refused
returns-in_err-now_at-clause-refused c =
    handed_on (Decodes c.args.reader.now.mode (view c.args.reader.now.value)) c.from_residual-in_err-now_at.result c.in_err-now_at.field-0.0 c.from_residual-in_err-now_at.ensures.1
    (λ refusal x decoded. c.in_err-now_at.ensures.refused refusal x.now (in_object HasNoting c.args.reader.now.mode c.in_ok-call.call.mode (members_view c.in_ok-call.call.members) (view c.args.reader.now.value) x c.in_ok-call.ensures.members c.in_ok-call.ensures.mode decoded.0).now)

pub returns-in_err-number_at-clause-refused : goal.returns-in_err-number_at-clause-refused
returns-in_err-number_at-clause-refused c =
    handed_on (Decodes c.args.reader.now.mode (view c.args.reader.now.value)) c.from_residual-in_err-number_at.result c.in_err-number_at.field-0.0 c.from_residual-in_err-number_at.ensures.1
    (λ refusal x decoded. c.in_err-number_at.ensures.refused refusal x.ticket (in_object HasNoting c.args.reader.now.mode c.in_ok-call.call.mode (members_view c.in_ok-call.call.members) (view c.args.reader.now.value) x c.in_ok-call.ensures.members c.in_ok-call.ensures.mode decoded.0).ticket)

pub returns-in_err-position_at-clause-refused : goal.returns-in_err-position_at-clause-refused
returns-in_err-position_at-clause-refused c =
    handed_on (Decodes c.args.reader.now.mode (view c.args.reader.now.value)) c.from_residual-in_err-position_at.result c.in_err-position_at.field-0.0 c.from_residual-in_err-position_at.ensures.1
    (λ refusal x decoded. c.in_err-position_at.ensures.refused refusal x.integration (in_object HasNoting c.args.reader.now.mode c.in_ok-call.call.mode (members_view c.in_ok-call.call.members) (view c.args.reader.now.value) x c.in_ok-call.ensures.members c.in_ok-call.ensures.mode decoded.0).integration)
