use Rattle.std.proofs.Common.{◌≡◌, List, Some, true, codes, subst, sym}
use Rattle.std.specs.Prelude.{IsTrue}
use Rattle.serde_json.specs.Data.{Data}
use Rattle.serde_json.specs.View.{members_view, view}
use Rattle.am_json.specs.Read.{ObjectData}
use Rattle.am_json.specs.declared.reader.Mode.{Mode}
use Rattle.serde_json.specs.Find.{as_object, get_member}
use Rattle.am_model.specs.declared.config.Integration.{Integration}
use Rattle.am_model.specs.declared.config.Receiver.{Receiver}
use Rattle.am_json.specs.Configured.{DecodesToIntegration, DecodesToReceiver, HasReceiver}
use Rattle.am_json.specs.Decoding.{Has, IsList}
use Rattle.am_json.proofs.Decoding.{all_sure, as_listed, as_decoded, handed_on, in_object, listed_in, missing, unknown}
use Rattle.am_json.proofs.config.ReceiverFromJson.read.Goals as goal

-- what is never refused
abbrev Decodes : Mode → Data → Receiver → Type 0
Decodes mode value receiver = DecodesToReceiver mode value receiver × IsTrue true

inside : (mode : Mode) (value : Data) (o : ObjectData) (receiver : Receiver) → Some (members_view o.members) ≡ as_object value → o.mode ≡ mode
    → Decodes mode value receiver → HasReceiver o.mode (members_view o.members) receiver
inside mode value o receiver is same decoded = in_object HasReceiver mode o.mode (members_view o.members) value receiver is same decoded.0

pub returns-clause-decoded : goal.returns-clause-decoded
returns-clause-decoded c =
    let o = c.in_ok-receiver.receiver in
    let members = members_view o.members in
    let receiver : Receiver = record { name = c.in_ok-name.name; integrations = c.from.result } in
    let has : HasReceiver o.mode members receiver = record {
      only = sym c.in_ok-only.ensures.known;
      name = c.in_ok-name.ensures.decoded;
      integrations = subst (λ (is : List Integration). Has (IsList (DecodesToIntegration o.mode)) (codes "integrations") members is) (sym c.from.ensures)
          (as_listed DecodesToIntegration o.mode c.in_ok-required.field-0.mode (view c.in_ok-required.field-0.value)
          (get_member (codes "integrations") members) c.in_ok-integrations.integrations.items c.in_ok-required.ensures.value
          c.in_ok-required.ensures.mode c.in_ok-integrations.ensures.decoded);
    } in
    as_decoded HasReceiver c.args.reader.now.mode o.mode members (view c.args.reader.now.value) receiver c.in_ok-receiver.ensures.members
    c.in_ok-receiver.ensures.mode has

pub returns-in_err-receiver-clause-refused : goal.returns-in_err-receiver-clause-refused
returns-in_err-receiver-clause-refused c =
    handed_on (Decodes c.args.reader.now.mode (view c.args.reader.now.value)) c.from_residual.result c.in_err-receiver.field-0.0 c.from_residual.ensures.1
    (λ refusal x decoded. missing (λ ms. HasReceiver c.args.reader.now.mode ms x) (as_object (view c.args.reader.now.value)) c.in_err-receiver.ensures.members decoded.0)

pub returns-in_err-only-clause-refused : goal.returns-in_err-only-clause-refused
returns-in_err-only-clause-refused c =
    handed_on (Decodes c.args.reader.now.mode (view c.args.reader.now.value)) c.from_residual-in_err-only.result c.in_err-only.field-0.0 c.from_residual-in_err-only.ensures.1
    (λ refusal x decoded. unknown _ c.in_err-only.ensures.known (inside c.args.reader.now.mode (view c.args.reader.now.value) c.in_ok-receiver.receiver x c.in_ok-receiver.ensures.members c.in_ok-receiver.ensures.mode decoded).only)

pub returns-in_err-name-clause-refused : goal.returns-in_err-name-clause-refused
returns-in_err-name-clause-refused c =
    handed_on (Decodes c.args.reader.now.mode (view c.args.reader.now.value)) c.from_residual-in_err-name.result c.in_err-name.field-0.0 c.from_residual-in_err-name.ensures.1
    (λ refusal x decoded. c.in_err-name.ensures.refused refusal x.name (inside c.args.reader.now.mode (view c.args.reader.now.value) c.in_ok-receiver.receiver x c.in_ok-receiver.ensures.members c.in_ok-receiver.ensures.mode decoded).name)

pub returns-in_err-required-clause-refused : goal.returns-in_err-required-clause-refused
returns-in_err-required-clause-refused c =
    handed_on (Decodes c.args.reader.now.mode (view c.args.reader.now.value)) c.from_residual-in_err-required.result c.in_err-required.field-0.0 c.from_residual-in_err-required.ensures.1
    (λ refusal x decoded. missing (λ v. IsList (DecodesToIntegration c.in_ok-receiver.receiver.mode) v x.integrations) (get_member (codes "integrations") (members_view c.in_ok-receiver.receiver.members)) c.in_err-required.ensures.value (inside c.args.reader.now.mode (view c.args.reader.now.value) c.in_ok-receiver.receiver x c.in_ok-receiver.ensures.members c.in_ok-receiver.ensures.mode decoded).integrations)

pub returns-in_err-integrations-clause-refused : goal.returns-in_err-integrations-clause-refused
returns-in_err-integrations-clause-refused c =
    handed_on (Decodes c.args.reader.now.mode (view c.args.reader.now.value)) c.from_residual-in_err-integrations.result c.in_err-integrations.field-0.0 c.from_residual-in_err-integrations.ensures.1
    (λ refusal x decoded. c.in_err-integrations.ensures.refused refusal x.integrations (listed_in DecodesToIntegration c.in_ok-receiver.receiver.mode c.in_ok-required.field-0.mode (view c.in_ok-required.field-0.value) (get_member (codes "integrations") (members_view c.in_ok-receiver.receiver.members)) x.integrations c.in_ok-required.ensures.value c.in_ok-required.ensures.mode (inside c.args.reader.now.mode (view c.args.reader.now.value) c.in_ok-receiver.receiver x c.in_ok-receiver.ensures.members c.in_ok-receiver.ensures.mode decoded).integrations, all_sure x.integrations))
