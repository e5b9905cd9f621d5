use Rattle.std.proofs.Common.{true, codes, sym}
use Rattle.std.specs.Prelude.{IsTrue}
use Rattle.serde_json.specs.Data.{Data}
use Rattle.serde_json.specs.Find.{as_object, get_member}
use Rattle.serde_json.specs.View.{members_view, view}
use Rattle.am_json.proofs.Decoding.{as_decoded, decoded_or, handed_on, in_object, missing, refused_or, unknown}
use Rattle.am_json.specs.Read.{duration_in, number_in}
use Rattle.am_json.specs.declared.reader.Mode.{Mode}
use Rattle.am_plans.proofs.Decodings.{found_if, if_found}
use Rattle.am_plans.specs.Decoding.{DecodesToOutage, HasOutage}
use Rattle.am_plans.specs.declared.outage.OutageItem.{OutageItem}
use Rattle.am_terms.specs.declared.rehearsal.Outage.{Outage}
use Rattle.am_plans.proofs.outage.OutageItemFromJson.read.Goals as goal

-- what is never refused
abbrev Decodes : Mode → Data → OutageItem → Type 0
Decodes mode value item = DecodesToOutage mode value item.outage × IsTrue true

pub returns-clause-decoded : goal.returns-clause-decoded
returns-clause-decoded c =
    let o = c.in_ok-outage.outage in
    let members = members_view o.members in
    let outage : Outage = record {
      receiver = c.in_ok-receiver.receiver;
      integration = c.in_ok-integration.integration;
      from = c.in_ok-from.field-0.from;
      to = c.in_ok-from.field-0.to;
      answer = c.in_ok-answer.answer;
      takes = c.in_ok-takes.takes;
    } in
    let has : HasOutage o.mode members outage = record {
      only = sym c.in_ok-only.ensures.known;
      receiver = c.in_ok-receiver.ensures.decoded;
      integration = found_if number_in (get_member (codes "integration") members) c.in_ok-integration.integration c.in_ok-integration.ensures.decoded;
      position = c.in_ok-integration.ensures.bound;
      span = c.in_ok-from.ensures.decoded;
      answer = c.in_ok-answer.ensures.decoded;
      takes = decoded_or duration_in 0 c.in_ok-takes.takes (get_member (codes "takes") members) c.in_ok-takes.ensures;
    } in
    as_decoded HasOutage c.args.reader.now.mode o.mode members (view c.args.reader.now.value) outage c.in_ok-outage.ensures.members c.in_ok-outage.ensures.mode has

pub returns-in_err-outage-clause-refused : goal.returns-in_err-outage-clause-refused
returns-in_err-outage-clause-refused c =
    handed_on (Decodes c.args.reader.now.mode (view c.args.reader.now.value)) c.from_residual.result c.in_err-outage.field-0.0 c.from_residual.ensures.1
    (λ refusal x decoded. missing (λ ms. HasOutage c.args.reader.now.mode ms x.outage) (as_object (view c.args.reader.now.value)) c.in_err-outage.ensures.members decoded.0)

pub returns-in_err-only-clause-refused : goal.returns-in_err-only-clause-refused
returns-in_err-only-clause-refused c =
    handed_on (Decodes c.args.reader.now.mode (view c.args.reader.now.value)) c.from_residual-in_err-only.result c.in_err-only.field-0.0 c.from_residual-in_err-only.ensures.1
    (λ refusal x decoded. unknown _ c.in_err-only.ensures.known (in_object HasOutage c.args.reader.now.mode c.in_ok-outage.outage.mode (members_view c.in_ok-outage.outage.members) (view c.args.reader.now.value) x.outage c.in_ok-outage.ensures.members c.in_ok-outage.ensures.mode decoded.0).only)

pub returns-in_err-receiver-clause-refused : goal.returns-in_err-receiver-clause-refused
returns-in_err-receiver-clause-refused c =
    handed_on (Decodes c.args.reader.now.mode (view c.args.reader.now.value)) c.from_residual-in_err-receiver.result c.in_err-receiver.field-0.0 c.from_residual-in_err-receiver.ensures.1
    (λ refusal x decoded. c.in_err-receiver.ensures.refused refusal x.outage.receiver (in_object HasOutage c.args.reader.now.mode c.in_ok-outage.outage.mode (members_view c.in_ok-outage.outage.members) (view c.args.reader.now.value) x.outage c.in_ok-outage.ensures.members c.in_ok-outage.ensures.mode decoded.0).receiver)

pub returns-in_err-integration-clause-refused : goal.returns-in_err-integration-clause-refused
returns-in_err-integration-clause-refused c =
    handed_on (Decodes c.args.reader.now.mode (view c.args.reader.now.value)) c.from_residual-in_err-integration.result c.in_err-integration.field-0.0 c.from_residual-in_err-integration.ensures.1
    (λ refusal x decoded. let is = (in_object HasOutage c.args.reader.now.mode c.in_ok-outage.outage.mode (members_view c.in_ok-outage.outage.members) (view c.args.reader.now.value) x.outage c.in_ok-outage.ensures.members c.in_ok-outage.ensures.mode decoded.0) in c.in_err-integration.ensures.refused x.outage.integration is.position (if_found number_in (get_member (codes "integration") (members_view c.in_ok-outage.outage.members)) x.outage.integration is.integration))

pub returns-in_err-from-clause-refused : goal.returns-in_err-from-clause-refused
returns-in_err-from-clause-refused c =
    handed_on (Decodes c.args.reader.now.mode (view c.args.reader.now.value)) c.from_residual-in_err-from.result c.in_err-from.field-0.0 c.from_residual-in_err-from.ensures.1
    (λ refusal x decoded. c.in_err-from.ensures.refused refusal (record { from = x.outage.from; to = x.outage.to }) (in_object HasOutage c.args.reader.now.mode c.in_ok-outage.outage.mode (members_view c.in_ok-outage.outage.members) (view c.args.reader.now.value) x.outage c.in_ok-outage.ensures.members c.in_ok-outage.ensures.mode decoded.0).span)

pub returns-in_err-answer-clause-refused : goal.returns-in_err-answer-clause-refused
returns-in_err-answer-clause-refused c =
    handed_on (Decodes c.args.reader.now.mode (view c.args.reader.now.value)) c.from_residual-in_err-answer.result c.in_err-answer.field-0.0 c.from_residual-in_err-answer.ensures.1
    (λ refusal x decoded. c.in_err-answer.ensures.refused refusal x.outage.answer (in_object HasOutage c.args.reader.now.mode c.in_ok-outage.outage.mode (members_view c.in_ok-outage.outage.members) (view c.args.reader.now.value) x.outage c.in_ok-outage.ensures.members c.in_ok-outage.ensures.mode decoded.0).answer)

pub returns-in_err-takes-clause-refused : goal.returns-in_err-takes-clause-refused
returns-in_err-takes-clause-refused c =
    handed_on (Decodes c.args.reader.now.mode (view c.args.reader.now.value)) c.from_residual-in_err-takes.result c.in_err-takes.field-0.0 c.from_residual-in_err-takes.ensures.1
    (λ refusal x decoded. refused_or duration_in 0 x.outage.takes (get_member (codes "takes") (members_view c.in_ok-outage.outage.members)) c.in_err-takes.field-0.0 c.in_err-takes.ensures (in_object HasOutage c.args.reader.now.mode c.in_ok-outage.outage.mode (members_view c.in_ok-outage.outage.members) (view c.args.reader.now.value) x.outage c.in_ok-outage.ensures.members c.in_ok-outage.ensures.mode decoded.0).takes)
