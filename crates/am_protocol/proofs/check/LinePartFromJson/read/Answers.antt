use Rattle.std.proofs.Common.{◌∙◌, None, ap, codes, refl}
use Rattle.serde_json.specs.Data.{Data}
use Rattle.serde_json.specs.View.{members_view, view}
use Rattle.am_json.proofs.Decoding.{handed_on}
use Rattle.am_json.specs.declared.reader.Mode.{Mode}
use Rattle.am_protocol.specs.Opening.{IsClockedOpening, IsTheirOpening}
use Rattle.am_protocol.proofs.Forms.{one_object}
use Rattle.am_protocol.proofs.CheckedParts.{IsSurePart, has_one, no_labels, no_part, one_part}
use Rattle.am_protocol.proofs.check.LinePartFromJson.read.Goals as goal

pub returns-in_err-check-clause-refused : goal.returns-in_err-check-clause-refused
returns-in_err-check-clause-refused c =
    handed_on (IsSurePart c.args.reader.now.mode (view c.args.reader.now.value)) c.from_residual.result c.in_err-check.field-0.0 c.from_residual.ensures.1
    (λ refusal x is. no_part c.args.reader.now.mode (view c.args.reader.now.value) x c.in_err-check.ensures.members is)

pub returns-in_err-name-clause-refused : goal.returns-in_err-name-clause-refused
returns-in_err-name-clause-refused c =
    handed_on (IsSurePart c.args.reader.now.mode (view c.args.reader.now.value)) c.from_residual-in_err-name.result c.in_err-name.field-0.0 c.from_residual-in_err-name.ensures.1
    (λ refusal x is. one_part c.args.reader.now.mode (view c.args.reader.now.value) (members_view c.in_ok-check.check.members) c.in_err-name.field-0.0 x c.in_ok-check.ensures.members c.in_err-name.ensures.refused is)

pub returns-in_err-read_labels-in-labels-clause-refused : goal.returns-in_err-read_labels-in-labels-clause-refused
returns-in_err-read_labels-in-labels-clause-refused c =
    let value = view c.args.reader.now.value in
    let name = c.in_ok-name.name.now in
    let there = view c.in_ok-name.value.now in
    let object = one_object value (members_view c.in_ok-check.check.members) name there c.in_ok-check.ensures.members c.in_ok-name.ensures.one in
    handed_on (IsSurePart c.args.reader.now.mode value) c.from_residual-in_err-read_labels-in-labels.result c.in_err-read_labels-in-labels.field-0.0 c.from_residual-in_err-read_labels-in-labels.ensures.1
    (no_labels c.args.reader.now.mode c.member-part.result.mode value there (view c.member-part.result.value) name c.in_err-read_labels-in-labels.field-0.0
    object c.in-labels.is (c.member-part.ensures.mode ∙ c.in_ok-check.ensures.mode) (ap view c.member-part.ensures.value) c.in_err-read_labels-in-labels.ensures.refused)

pub returns-in_ok-read_theirs-in-alertmanager-clause-decoded : goal.returns-in_ok-read_theirs-in-alertmanager-clause-decoded
returns-in_ok-read_theirs-in-alertmanager-clause-decoded c =
    let mode = c.args.reader.now.mode in
    let value = view c.args.reader.now.value in
    let name = c.in_ok-name.name.now in
    let there = view c.in_ok-name.value.now in
    let object = one_object value (members_view c.in_ok-check.check.members) name there c.in_ok-check.ensures.members c.in_ok-name.ensures.one in
    has_one (λ (m : Mode) (d : Data). IsTheirOpening None d c.in_ok-read_theirs-in-alertmanager.field-0) mode mode value there (view c.member-part.result.value)
    (codes "alertmanager") name object c.in-alertmanager.is refl (ap view c.member-part.ensures.value) c.in_ok-read_theirs-in-alertmanager.ensures

pub returns-in_ok-read_clocked-in-open-clause-decoded : goal.returns-in_ok-read_clocked-in-open-clause-decoded
returns-in_ok-read_clocked-in-open-clause-decoded c =
    let mode = c.args.reader.now.mode in
    let value = view c.args.reader.now.value in
    let name = c.in_ok-name.name.now in
    let there = view c.in_ok-name.value.now in
    let object = one_object value (members_view c.in_ok-check.check.members) name there c.in_ok-check.ensures.members c.in_ok-name.ensures.one in
    has_one (λ (m : Mode) (d : Data). IsClockedOpening m d c.in_ok-read_clocked-in-open.field-0) mode c.member-part.result.mode value there
    (view c.member-part.result.value) (codes "open") name object c.in-open.is (c.member-part.ensures.mode ∙ c.in_ok-check.ensures.mode)
    (ap view c.member-part.ensures.value) c.in_ok-read_clocked-in-open.ensures
