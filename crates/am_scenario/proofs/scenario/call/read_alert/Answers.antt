use Rattle.std.proofs.Common.{◌≡◌, ◌∙◌, Option, List, Some, ℕ, codes, subst, sym}
use Rattle.serde_json.specs.Data.{Data}
use Rattle.serde_json.specs.Find.{as_object, get_member}
use Rattle.serde_json.specs.View.{members_view, view}
use Rattle.am_alerts.specs.AlertData.{AlertData, alert_fault, alert_of}
use Rattle.am_alerts.specs.declared.labels.Label.{Label}
use Rattle.am_json.proofs.Decoding.{as_decoded, as_decoded_in, decoded_by, in_object}
use Rattle.am_json.proofs.Made.{made_is, made_well, unmade}
use Rattle.am_json.specs.Configured.{DecodesToLabels}
use Rattle.am_json.specs.Decoding.{IsNumber}
use Rattle.am_json.specs.Read.{ObjectData}
use Rattle.am_json.specs.declared.reader.Mode.{Mode}
use Rattle.am_scenario.proofs.Calls.{same_fault}
use Rattle.am_scenario.specs.Decoding.{DecodesToAlert, HasAlert}
use Rattle.am_scenario.proofs.scenario.call.read_alert.Goals as goal

inside : (mode : Mode) (value : Data) (o : ObjectData) (alert : AlertData) → Some (members_view o.members) ≡ as_object value → o.mode ≡ mode
    → DecodesToAlert mode value alert → HasAlert o.mode (members_view o.members) alert
inside mode value o alert is same decoded = in_object HasAlert mode o.mode (members_view o.members) value alert is same decoded

pub returns-in-Ok-clause-decoded : goal.returns-in-Ok-clause-decoded
returns-in-Ok-clause-decoded c =
    let o = c.in_ok-insert.insert in
    let members = members_view o.members in
    let labels : List Label = c.in_ok-labels.labels in
    let starts : ℕ = c.in_ok-starts.starts in
    let ends : Option ℕ = c.in_ok-ends.ends in
    let alert : AlertData = alert_of labels starts ends in
    let made : c.in-Ok.alert ≡ alert = made_is (alert_fault alert) alert c.in-Ok.alert c.in-Ok.ensures in
    let has : HasAlert o.mode members alert = record {
      labels = as_decoded_in DecodesToLabels o.mode c.in_ok-required.field-0.mode (view c.in_ok-required.field-0.value) (get_member (codes "labels") members)
          labels c.in_ok-required.ensures.value c.in_ok-required.ensures.mode c.in_ok-labels.ensures.decoded;
      starts = decoded_by IsNumber (get_member (codes "starts") members) (view c.in_ok-required-2.field-0.value) starts
          c.in_ok-required-2.ensures.value (sym c.in_ok-starts.ensures.number);
      ends = c.in_ok-ends.ensures.decoded;
      sound = made_well (alert_fault alert) alert c.in-Ok.alert c.in-Ok.ensures;
    } in
    subst (λ (a : AlertData). DecodesToAlert c.args.reader.now.mode (view c.args.reader.now.value) a) (sym made)
    (as_decoded HasAlert c.args.reader.now.mode o.mode members (view c.args.reader.now.value) alert c.in_ok-insert.ensures.members
    c.in_ok-insert.ensures.mode has)

-- labels and times that are no alert
pub returns-in-Err-clause-refused : goal.returns-in-Err-clause-refused
returns-in-Err-clause-refused c refusal x decoded =
    let o = c.in_ok-insert.insert in
    let members = members_view o.members in
    let alert : AlertData = alert_of c.in_ok-labels.labels c.in_ok-starts.starts c.in_ok-ends.ends in
    let is = inside c.args.reader.now.mode (view c.args.reader.now.value) o x c.in_ok-insert.ensures.members c.in_ok-insert.ensures.mode decoded in
    let same : alert_fault alert ≡ alert_fault x = same_fault o.mode members alert x
    (as_decoded_in DecodesToLabels o.mode c.in_ok-required.field-0.mode (view c.in_ok-required.field-0.value) (get_member (codes "labels") members)
    alert.labels c.in_ok-required.ensures.value c.in_ok-required.ensures.mode c.in_ok-labels.ensures.decoded) is.labels
    (decoded_by IsNumber (get_member (codes "starts") members) (view c.in_ok-required-2.field-0.value) alert.starts
    c.in_ok-required-2.ensures.value (sym c.in_ok-starts.ensures.number)) is.starts c.in_ok-ends.ensures.decoded is.ends in
    unmade (alert_fault alert) alert _ c.in-Err.ensures (same ∙ is.sound)
