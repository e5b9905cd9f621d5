use Rattle.std.proofs.Common.{sym, true}
use Rattle.std.specs.Prelude.{IsTrue}
use Rattle.serde_json.specs.Data.{Data}
use Rattle.serde_json.specs.Find.{as_object}
use Rattle.serde_json.specs.View.{members_view, view}
use Rattle.am_json.proofs.Decoding.{as_decoded, handed_on, in_object, missing, sure, unknown}
use Rattle.am_json.specs.declared.reader.Mode.{Mode}
use Rattle.am_protocol.specs.Request.{DecodesToRow, HasRow}
use Rattle.am_protocol.specs.declared.request.NamedRow.{NamedRow}
use Rattle.am_protocol.proofs.request.NamedRowFromJson.read.Goals as goal

-- what is never refused
abbrev Decodes : Mode → Data → NamedRow → Type 0
Decodes mode value x = DecodesToRow mode value x × IsTrue true

pub returns-clause-decoded : goal.returns-clause-decoded
returns-clause-decoded c =
    let o = c.in_ok-row.row in
    let members = members_view o.members in
    let x : NamedRow = record {
      group = c.in_ok-group.group;
      receiver = c.in_ok-receiver.receiver;
      integration = c.in_ok-integration.integration;
      kind = c.in_ok-kind.kind;
      time = c.in_ok-time.time;
      expiry = c.in_ok-expiry.expiry;
      firing = c.in_ok-firing.firing;
      resolved = c.in_ok-resolved.resolved;
    } in
    let has : HasRow o.mode members x = record {
      only = sym c.in_ok-only.ensures.known;
      group = c.in_ok-group.ensures.decoded;
      receiver = c.in_ok-receiver.ensures.decoded;
      integration = c.in_ok-integration.ensures.decoded;
      kind = c.in_ok-kind.ensures.decoded;
      time = c.in_ok-time.ensures.decoded;
      expiry = c.in_ok-expiry.ensures.decoded;
      firing = c.in_ok-firing.ensures.decoded;
      resolved = c.in_ok-resolved.ensures.decoded;
    } in
    as_decoded HasRow c.args.reader.now.mode o.mode members (view c.args.reader.now.value) x c.in_ok-row.ensures.members c.in_ok-row.ensures.mode has

pub returns-in_err-row-clause-refused : goal.returns-in_err-row-clause-refused
returns-in_err-row-clause-refused c =
    handed_on (Decodes c.args.reader.now.mode (view c.args.reader.now.value)) c.from_residual.result c.in_err-row.field-0.0 c.from_residual.ensures.1
    (λ refusal x decoded. missing (λ ms. HasRow c.args.reader.now.mode ms x) (as_object (view c.args.reader.now.value)) c.in_err-row.ensures.members decoded.0)

pub returns-in_err-only-clause-refused : goal.returns-in_err-only-clause-refused
returns-in_err-only-clause-refused c =
    handed_on (Decodes c.args.reader.now.mode (view c.args.reader.now.value)) c.from_residual-in_err-only.result c.in_err-only.field-0.0 c.from_residual-in_err-only.ensures.1
    (λ refusal x decoded. unknown _ c.in_err-only.ensures.known (in_object HasRow c.args.reader.now.mode c.in_ok-row.row.mode (members_view c.in_ok-row.row.members) (view c.args.reader.now.value) x c.in_ok-row.ensures.members c.in_ok-row.ensures.mode decoded.0).only)

pub returns-in_err-integration-clause-refused : goal.returns-in_err-integration-clause-refused
returns-in_err-integration-clause-refused c =
    handed_on (Decodes c.args.reader.now.mode (view c.args.reader.now.value)) c.from_residual-in_err-integration.result c.in_err-integration.field-0.0 c.from_residual-in_err-integration.ensures.1
    (λ refusal x decoded. c.in_err-integration.ensures.refused refusal x.integration (in_object HasRow c.args.reader.now.mode c.in_ok-row.row.mode (members_view c.in_ok-row.row.members) (view c.args.reader.now.value) x c.in_ok-row.ensures.members c.in_ok-row.ensures.mode decoded.0).integration)

pub returns-in_err-time-clause-refused : goal.returns-in_err-time-clause-refused
returns-in_err-time-clause-refused c =
    handed_on (Decodes c.args.reader.now.mode (view c.args.reader.now.value)) c.from_residual-in_err-time.result c.in_err-time.field-0.0 c.from_residual-in_err-time.ensures.1
    (λ refusal x decoded. c.in_err-time.ensures.refused refusal x.time (in_object HasRow c.args.reader.now.mode c.in_ok-row.row.mode (members_view c.in_ok-row.row.members) (view c.args.reader.now.value) x c.in_ok-row.ensures.members c.in_ok-row.ensures.mode decoded.0).time)

pub returns-in_err-expiry-clause-refused : goal.returns-in_err-expiry-clause-refused
returns-in_err-expiry-clause-refused c =
    handed_on (Decodes c.args.reader.now.mode (view c.args.reader.now.value)) c.from_residual-in_err-expiry.result c.in_err-expiry.field-0.0 c.from_residual-in_err-expiry.ensures.1
    (λ refusal x decoded. c.in_err-expiry.ensures.refused refusal x.expiry (in_object HasRow c.args.reader.now.mode c.in_ok-row.row.mode (members_view c.in_ok-row.row.members) (view c.args.reader.now.value) x c.in_ok-row.ensures.members c.in_ok-row.ensures.mode decoded.0).expiry)

pub returns-in_err-group-clause-refused : goal.returns-in_err-group-clause-refused
returns-in_err-group-clause-refused c =
    handed_on (Decodes c.args.reader.now.mode (view c.args.reader.now.value)) c.from_residual-in_err-group.result c.in_err-group.field-0.0 c.from_residual-in_err-group.ensures.1
    (λ refusal x decoded. c.in_err-group.ensures.refused refusal x.group ((in_object HasRow c.args.reader.now.mode c.in_ok-row.row.mode (members_view c.in_ok-row.row.members) (view c.args.reader.now.value) x c.in_ok-row.ensures.members c.in_ok-row.ensures.mode decoded.0).group, sure))

pub returns-in_err-receiver-clause-refused : goal.returns-in_err-receiver-clause-refused
returns-in_err-receiver-clause-refused c =
    handed_on (Decodes c.args.reader.now.mode (view c.args.reader.now.value)) c.from_residual-in_err-receiver.result c.in_err-receiver.field-0.0 c.from_residual-in_err-receiver.ensures.1
    (λ refusal x decoded. c.in_err-receiver.ensures.refused refusal x.receiver (in_object HasRow c.args.reader.now.mode c.in_ok-row.row.mode (members_view c.in_ok-row.row.members) (view c.args.reader.now.value) x c.in_ok-row.ensures.members c.in_ok-row.ensures.mode decoded.0).receiver)

pub returns-in_err-kind-clause-refused : goal.returns-in_err-kind-clause-refused
returns-in_err-kind-clause-refused c =
    handed_on (Decodes c.args.reader.now.mode (view c.args.reader.now.value)) c.from_residual-in_err-kind.result c.in_err-kind.field-0.0 c.from_residual-in_err-kind.ensures.1
    (λ refusal x decoded. c.in_err-kind.ensures.refused refusal x.kind ((in_object HasRow c.args.reader.now.mode c.in_ok-row.row.mode (members_view c.in_ok-row.row.members) (view c.args.reader.now.value) x c.in_ok-row.ensures.members c.in_ok-row.ensures.mode decoded.0).kind, sure))

pub returns-in_err-firing-clause-refused : goal.returns-in_err-firing-clause-refused
returns-in_err-firing-clause-refused c =
    handed_on (Decodes c.args.reader.now.mode (view c.args.reader.now.value)) c.from_residual-in_err-firing.result c.in_err-firing.field-0.0 c.from_residual-in_err-firing.ensures.1
    (λ refusal x decoded. c.in_err-firing.ensures.refused refusal x.firing.items (in_object HasRow c.args.reader.now.mode c.in_ok-row.row.mode (members_view c.in_ok-row.row.members) (view c.args.reader.now.value) x c.in_ok-row.ensures.members c.in_ok-row.ensures.mode decoded.0).firing)

pub returns-in_err-resolved-clause-refused : goal.returns-in_err-resolved-clause-refused
returns-in_err-resolved-clause-refused c =
    handed_on (Decodes c.args.reader.now.mode (view c.args.reader.now.value)) c.from_residual-in_err-resolved.result c.in_err-resolved.field-0.0 c.from_residual-in_err-resolved.ensures.1
    (λ refusal x decoded. c.in_err-resolved.ensures.refused refusal x.resolved.items (in_object HasRow c.args.reader.now.mode c.in_ok-row.row.mode (members_view c.in_ok-row.row.members) (view c.args.reader.now.value) x c.in_ok-row.ensures.members c.in_ok-row.ensures.mode decoded.0).resolved)
