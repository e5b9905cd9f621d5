use Rattle.std.proofs.Common.{sym, true}
use Rattle.std.specs.Prelude.{IsTrue}
use Rattle.serde_json.specs.Data.{Data}
use Rattle.serde_json.specs.Find.{as_object}
use Rattle.serde_json.specs.View.{members_view, view}
use Rattle.am_json.proofs.Decoding.{as_decoded, handed_on, in_object, missing, sure, unknown}
use Rattle.am_json.specs.declared.reader.Mode.{Mode}
use Rattle.am_protocol.specs.Request.{DecodesToLoading, HasLoading}
use Rattle.am_protocol.specs.declared.request.Loading.{Loading}
use Rattle.am_protocol.proofs.request.LoadingFromJson.read.Goals as goal

-- what is never refused
abbrev Decodes : Mode → Data → Loading → Type 0
Decodes mode value x = DecodesToLoading mode value x × IsTrue true

pub returns-clause-decoded : goal.returns-clause-decoded
returns-clause-decoded c =
    let o = c.in_ok-call.call in
    let members = members_view o.members in
    let x : Loading = record { now = c.in_ok-now.now; row = c.in_ok-row.row } in
    let has : HasLoading o.mode members x = record {
      only = sym c.in_ok-only.ensures.known;
      now = c.in_ok-now.ensures.decoded;
      row = c.in_ok-row.ensures.decoded;
    } in
    as_decoded HasLoading c.args.reader.now.mode o.mode members (view c.args.reader.now.value) x c.in_ok-call.ensures.members c.in_ok-call.ensures.mode has

pub returns-in_err-call-clause-refused : goal.returns-in_err-call-clause-refused
returns-in_err-call-clause-refused c =
    handed_on (Decodes c.args.reader.now.mode (view c.args.reader.now.value)) c.from_residual.result c.in_err-call.field-0.0 c.from_residual.ensures.1
    (λ refusal x decoded. missing (λ ms. HasLoading c.args.reader.now.mode ms x) (as_object (view c.args.reader.now.value)) c.in_err-call.ensures.members decoded.0)

pub returns-in_err-only-clause-refused : goal.returns-in_err-only-clause-refused
returns-in_err-only-clause-refused c =
    handed_on (Decodes c.args.reader.now.mode (view c.args.reader.now.value)) c.from_residual-in_err-only.result c.in_err-only.field-0.0 c.from_residual-in_err-only.ensures.1
    (λ refusal x decoded. unknown _ c.in_err-only.ensures.known (in_object HasLoading c.args.reader.now.mode c.in_ok-call.call.mode (members_view c.in_ok-call.call.members) (view c.args.reader.now.value) x c.in_ok-call.ensures.members c.in_ok-call.ensures.mode decoded.0).only)

pub returns-in_err-now-clause-refused : goal.returns-in_err-now-clause-refused
returns-in_err-now-clause-refused c =
    handed_on (Decodes c.args.reader.now.mode (view c.args.reader.now.value)) c.from_residual-in_err-now.result c.in_err-now.field-0.0 c.from_residual-in_err-now.ensures.1
    (λ refusal x decoded. c.in_err-now.ensures.refused refusal x.now (in_object HasLoading c.args.reader.now.mode c.in_ok-call.call.mode (members_view c.in_ok-call.call.members) (view c.args.reader.now.value) x c.in_ok-call.ensures.members c.in_ok-call.ensures.mode decoded.0).now)

pub returns-in_err-row-clause-refused : goal.returns-in_err-row-clause-refused
returns-in_err-row-clause-refused c =
    handed_on (Decodes c.args.reader.now.mode (view c.args.reader.now.value)) c.from_residual-in_err-row.result c.in_err-row.field-0.0 c.from_residual-in_err-row.ensures.1
    (λ refusal x decoded. c.in_err-row.ensures.refused refusal x.row ((in_object HasLoading c.args.reader.now.mode c.in_ok-call.call.mode (members_view c.in_ok-call.call.members) (view c.args.reader.now.value) x c.in_ok-call.ensures.members c.in_ok-call.ensures.mode decoded.0).row, sure))
