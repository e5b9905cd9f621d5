use Rattle.std.proofs.Common.{true, codes, sym}
use Rattle.std.specs.Prelude.{IsTrue}
use Rattle.serde_json.specs.Data.{Data}
use Rattle.serde_json.specs.Find.{as_object, get_member}
use Rattle.serde_json.specs.View.{members_view, view}
use Rattle.am_json.proofs.Decoding.{as_decoded, as_decoded_in, handed_on, in_object, missing, decoded_in, unknown}
use Rattle.am_json.specs.Configured.{DecodesToLabels}
use Rattle.am_json.specs.declared.reader.Mode.{Mode}
use Rattle.am_plans.specs.Decoding.{DecodesToAlert, HasAlert}
use Rattle.am_plans.specs.declared.alert.AlertItem.{AlertItem}
use Rattle.am_plans.proofs.alert.AlertItemFromJson.read.Goals as goal

-- what is never refused
abbrev Decodes : Mode → Data → AlertItem → Type 0
Decodes mode value alert = DecodesToAlert mode value alert × IsTrue true

pub returns-clause-decoded : goal.returns-clause-decoded
returns-clause-decoded c =
    let o = c.in_ok-alert.alert in
    let members = members_view o.members in
    let item : AlertItem = record { labels = c.in_ok-labels.labels; spans = c.in_ok-spans.spans; is_listed = c.in_ok-spans.is_listed } in
    let has : HasAlert o.mode members item = record {
      only = sym c.in_ok-only.ensures.known;
      labels = as_decoded_in DecodesToLabels o.mode c.in_ok-required.field-0.mode (view c.in_ok-required.field-0.value) (get_member (codes "labels") members)
          c.in_ok-labels.labels c.in_ok-required.ensures.value c.in_ok-required.ensures.mode c.in_ok-labels.ensures.decoded;
      spans = c.in_ok-spans.ensures.decoded;
    } in
    as_decoded HasAlert c.args.reader.now.mode o.mode members (view c.args.reader.now.value) item c.in_ok-alert.ensures.members c.in_ok-alert.ensures.mode has

pub returns-in_err-alert-clause-refused : goal.returns-in_err-alert-clause-refused
returns-in_err-alert-clause-refused c =
    handed_on (Decodes c.args.reader.now.mode (view c.args.reader.now.value)) c.from_residual.result c.in_err-alert.field-0.0 c.from_residual.ensures.1
    (λ refusal x decoded. missing (λ ms. HasAlert c.args.reader.now.mode ms x) (as_object (view c.args.reader.now.value)) c.in_err-alert.ensures.members decoded.0)

pub returns-in_err-only-clause-refused : goal.returns-in_err-only-clause-refused
returns-in_err-only-clause-refused c =
    handed_on (Decodes c.args.reader.now.mode (view c.args.reader.now.value)) c.from_residual-in_err-only.result c.in_err-only.field-0.0 c.from_residual-in_err-only.ensures.1
    (λ refusal x decoded. unknown _ c.in_err-only.ensures.known (in_object HasAlert c.args.reader.now.mode c.in_ok-alert.alert.mode (members_view c.in_ok-alert.alert.members) (view c.args.reader.now.value) x c.in_ok-alert.ensures.members c.in_ok-alert.ensures.mode decoded.0).only)

pub returns-in_err-required-clause-refused : goal.returns-in_err-required-clause-refused
returns-in_err-required-clause-refused c =
    handed_on (Decodes c.args.reader.now.mode (view c.args.reader.now.value)) c.from_residual-in_err-required.result c.in_err-required.field-0.0 c.from_residual-in_err-required.ensures.1
    (λ refusal x decoded. missing (λ v. DecodesToLabels c.in_ok-alert.alert.mode v x.labels) (get_member (codes "labels") (members_view c.in_ok-alert.alert.members)) c.in_err-required.ensures.value (in_object HasAlert c.args.reader.now.mode c.in_ok-alert.alert.mode (members_view c.in_ok-alert.alert.members) (view c.args.reader.now.value) x c.in_ok-alert.ensures.members c.in_ok-alert.ensures.mode decoded.0).labels)

pub returns-in_err-labels-clause-refused : goal.returns-in_err-labels-clause-refused
returns-in_err-labels-clause-refused c =
    handed_on (Decodes c.args.reader.now.mode (view c.args.reader.now.value)) c.from_residual-in_err-labels.result c.in_err-labels.field-0.0 c.from_residual-in_err-labels.ensures.1
    (λ refusal x decoded. c.in_err-labels.ensures.refused refusal x.labels (decoded_in DecodesToLabels c.in_ok-alert.alert.mode c.in_ok-required.field-0.mode (view c.in_ok-required.field-0.value) (get_member (codes "labels") (members_view c.in_ok-alert.alert.members)) x.labels c.in_ok-required.ensures.value c.in_ok-required.ensures.mode (in_object HasAlert c.args.reader.now.mode c.in_ok-alert.alert.mode (members_view c.in_ok-alert.alert.members) (view c.args.reader.now.value) x c.in_ok-alert.ensures.members c.in_ok-alert.ensures.mode decoded.0).labels))

pub returns-in_err-spans-clause-refused : goal.returns-in_err-spans-clause-refused
returns-in_err-spans-clause-refused c =
    handed_on (Decodes c.args.reader.now.mode (view c.args.reader.now.value)) c.from_residual-in_err-spans.result c.in_err-spans.field-0.0 c.from_residual-in_err-spans.ensures.1
    (λ refusal x decoded. c.in_err-spans.ensures.refused refusal x.spans.items (in_object HasAlert c.args.reader.now.mode c.in_ok-alert.alert.mode (members_view c.in_ok-alert.alert.members) (view c.args.reader.now.value) x c.in_ok-alert.ensures.members c.in_ok-alert.ensures.mode decoded.0).spans)
