use Rattle.std.proofs.Common.{◌≡◌, Some, true, codes, sym}
use Rattle.std.specs.Prelude.{IsTrue}
use Rattle.serde_json.specs.Data.{Data}
use Rattle.serde_json.specs.View.{members_view, view}
use Rattle.am_json.specs.Read.{ObjectData}
use Rattle.am_json.specs.declared.reader.Mode.{Mode}
use Rattle.serde_json.specs.Find.{as_bool, as_object, get_member}
use Rattle.am_model.specs.declared.config.Integration.{Integration}
use Rattle.am_json.specs.Configured.{DecodesToIntegration, HasIntegration}
use Rattle.am_json.proofs.Decoding.{as_decoded, decoded_or, handed_on, in_object, missing, refused_or, unknown}
use Rattle.am_json.proofs.config.IntegrationFromJson.read.Goals as goal

-- what is never refused
abbrev Decodes : Mode → Data → Integration → Type 0
Decodes mode value integration = DecodesToIntegration mode value integration × IsTrue true

inside : (mode : Mode) (value : Data) (o : ObjectData) (integration : Integration) → Some (members_view o.members) ≡ as_object value → o.mode ≡ mode
    → Decodes mode value integration → HasIntegration o.mode (members_view o.members) integration
inside mode value o integration is same decoded = in_object HasIntegration mode o.mode (members_view o.members) value integration is same decoded.0

pub returns-clause-decoded : goal.returns-clause-decoded
returns-clause-decoded c =
    let o = c.in_ok-integration.integration in
    let members = members_view o.members in
    let integration : Integration = record { kind = c.in_ok-kind.kind; send_resolved = c.in_ok-send_resolved.send_resolved } in
    let has : HasIntegration o.mode members integration = record {
      only = sym c.in_ok-only.ensures.known;
      kind = c.in_ok-kind.ensures.decoded;
      send_resolved = decoded_or as_bool true c.in_ok-send_resolved.send_resolved (get_member (codes "send_resolved") members) c.in_ok-send_resolved.ensures.value;
    } in
    as_decoded HasIntegration c.args.reader.now.mode o.mode members (view c.args.reader.now.value) integration c.in_ok-integration.ensures.members
    c.in_ok-integration.ensures.mode has

pub returns-in_err-integration-clause-refused : goal.returns-in_err-integration-clause-refused
returns-in_err-integration-clause-refused c =
    handed_on (Decodes c.args.reader.now.mode (view c.args.reader.now.value)) c.from_residual.result c.in_err-integration.field-0.0 c.from_residual.ensures.1
    (λ refusal x decoded. missing (λ ms. HasIntegration c.args.reader.now.mode ms x) (as_object (view c.args.reader.now.value)) c.in_err-integration.ensures.members decoded.0)

pub returns-in_err-only-clause-refused : goal.returns-in_err-only-clause-refused
returns-in_err-only-clause-refused c =
    handed_on (Decodes c.args.reader.now.mode (view c.args.reader.now.value)) c.from_residual-in_err-only.result c.in_err-only.field-0.0 c.from_residual-in_err-only.ensures.1
    (λ refusal x decoded. unknown _ c.in_err-only.ensures.known (inside c.args.reader.now.mode (view c.args.reader.now.value) c.in_ok-integration.integration x c.in_ok-integration.ensures.members c.in_ok-integration.ensures.mode decoded).only)

pub returns-in_err-kind-clause-refused : goal.returns-in_err-kind-clause-refused
returns-in_err-kind-clause-refused c =
    handed_on (Decodes c.args.reader.now.mode (view c.args.reader.now.value)) c.from_residual-in_err-kind.result c.in_err-kind.field-0.0 c.from_residual-in_err-kind.ensures.1
    (λ refusal x decoded. c.in_err-kind.ensures.refused refusal x.kind (inside c.args.reader.now.mode (view c.args.reader.now.value) c.in_ok-integration.integration x c.in_ok-integration.ensures.members c.in_ok-integration.ensures.mode decoded).kind)

pub returns-in_err-send_resolved-clause-refused : goal.returns-in_err-send_resolved-clause-refused
returns-in_err-send_resolved-clause-refused c =
    handed_on (Decodes c.args.reader.now.mode (view c.args.reader.now.value)) c.from_residual-in_err-send_resolved.result c.in_err-send_resolved.field-0.0 c.from_residual-in_err-send_resolved.ensures.1
    (λ refusal x decoded. refused_or as_bool true x.send_resolved (get_member (codes "send_resolved") (members_view c.in_ok-integration.integration.members)) c.in_err-send_resolved.field-0.0 c.in_err-send_resolved.ensures.value (inside c.args.reader.now.mode (view c.args.reader.now.value) c.in_ok-integration.integration x c.in_ok-integration.ensures.members c.in_ok-integration.ensures.mode decoded).send_resolved)
