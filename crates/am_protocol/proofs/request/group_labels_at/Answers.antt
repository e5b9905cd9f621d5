use Rattle.std.proofs.Common.{List, Option, codes}
use Rattle.serde_json.specs.Find.{get_member}
use Rattle.serde_json.specs.View.{members_view, view}
use Rattle.am_alerts.specs.declared.labels.Label.{Label}
use Rattle.am_json.specs.Decoding.{Has}
use Rattle.am_json.proofs.Decoding.{as_decoded_in, decoded_in, handed_on, missing}
use Rattle.am_protocol.specs.Request.{IsGroupLabels}
use Rattle.am_protocol.proofs.request.group_labels_at.Goals as goal

pub returns-clause-decoded : goal.returns-clause-decoded
returns-clause-decoded c =
    let members = members_view c.args.group.now.members in
    as_decoded_in IsGroupLabels c.args.group.now.mode c.in_ok-required.field-0.mode (view c.in_ok-required.field-0.value) (get_member (codes "labels") members) c.in_ok-labels.labels
    c.in_ok-required.ensures.value c.in_ok-required.ensures.mode c.in_ok-labels.ensures.decoded

pub returns-in_err-required-clause-refused : goal.returns-in_err-required-clause-refused
returns-in_err-required-clause-refused c =
    let members = members_view c.args.group.now.members in
    let Decodes = λ (x : Option (List Label)). Has (IsGroupLabels c.args.group.now.mode) (codes "labels") members x in
    handed_on Decodes c.from_residual.result c.in_err-required.field-0.0 c.from_residual.ensures.1
    (λ refusal x decoded. missing (λ v. IsGroupLabels c.args.group.now.mode v x) (get_member (codes "labels") members) c.in_err-required.ensures.value decoded)

pub returns-in_err-labels-clause-refused : goal.returns-in_err-labels-clause-refused
returns-in_err-labels-clause-refused c =
    let members = members_view c.args.group.now.members in
    let Decodes = λ (x : Option (List Label)). Has (IsGroupLabels c.args.group.now.mode) (codes "labels") members x in
    handed_on Decodes c.from_residual-in_err-labels.result c.in_err-labels.field-0.0 c.from_residual-in_err-labels.ensures.1
    (λ refusal x decoded. c.in_err-labels.ensures.refused refusal x (
    decoded_in IsGroupLabels c.args.group.now.mode c.in_ok-required.field-0.mode (view c.in_ok-required.field-0.value) (get_member (codes "labels") members) x
    c.in_ok-required.ensures.value c.in_ok-required.ensures.mode decoded
    ))
