use Rattle.std.proofs.Common.{◌≡◌, ◌∙◌, ℕ, None, ap, length, codes, subst, sym, true}
use Rattle.std.specs.Prelude.{IsTrue}
use Rattle.serde_json.specs.Data.{Data}
use Rattle.serde_json.specs.Find.{as_object, get_member}
use Rattle.serde_json.specs.View.{members_view, view}
use Rattle.am_json.proofs.Decoding.{as_decoded, handed_on, in_object, missing, sure, unknown}
use Rattle.am_json.specs.declared.reader.Mode.{Mode}
use Rattle.am_alerts.specs.AlertData.{alert_fault}
use Rattle.am_json.proofs.Once.{one_or, one_read, one_there}
use Rattle.am_json.specs.Configured.{DecodesToLabels}
use Rattle.am_json.specs.Decoding.{HasOr}
use Rattle.am_protocol.specs.Time.{IsEnd, IsNow, IsTime, time_in}
use Rattle.am_protocol.proofs.Once.{both_there, one_end, one_length, one_now, same_fault}
use Rattle.am_protocol.specs.Request.{DecodesToInsertion, HasInsertion}
use Rattle.am_protocol.specs.declared.request.Insertion.{Insertion}
use Rattle.am_protocol.proofs.request.InsertionFromJson.read.Goals as goal

-- what is never refused
abbrev Decodes : Mode → Data → Insertion → Type 0
Decodes mode value x = DecodesToInsertion mode value x × IsTrue true

pub returns-clause-decoded : goal.returns-clause-decoded
returns-clause-decoded c =
    let o = c.in_ok-call.call in
    let members = members_view o.members in
    let x : Insertion = record { now = c.in_ok-now.now; alert = c.in_ok-alert.alert } in
    let has : HasInsertion o.mode members x = record {
      only = sym c.in_ok-only.ensures.known;
      now = c.in_ok-now.ensures.decoded;
      labels = c.in_ok-labels.labels;
      has_labels = c.in_ok-labels.ensures.decoded;
      starts = c.in_ok-starts.starts;
      has_starts = c.in_ok-starts.ensures.decoded;
      ends = c.in_ok-ends.ends;
      has_ends = c.in_ok-ends.ensures.decoded;
      is = c.in_ok-alert.ensures.alert;
      sound = c.in_ok-alert.ensures.sound;
    } in
    as_decoded HasInsertion c.args.reader.now.mode o.mode members (view c.args.reader.now.value) x c.in_ok-call.ensures.members c.in_ok-call.ensures.mode has

pub returns-in_err-call-clause-refused : goal.returns-in_err-call-clause-refused
returns-in_err-call-clause-refused c =
    handed_on (Decodes c.args.reader.now.mode (view c.args.reader.now.value)) c.from_residual.result c.in_err-call.field-0.0 c.from_residual.ensures.1
    (λ refusal x decoded. missing (λ ms. HasInsertion c.args.reader.now.mode ms x) (as_object (view c.args.reader.now.value)) c.in_err-call.ensures.members decoded.0)

pub returns-in_err-only-clause-refused : goal.returns-in_err-only-clause-refused
returns-in_err-only-clause-refused c =
    handed_on (Decodes c.args.reader.now.mode (view c.args.reader.now.value)) c.from_residual-in_err-only.result c.in_err-only.field-0.0 c.from_residual-in_err-only.ensures.1
    (λ refusal x decoded. unknown _ c.in_err-only.ensures.known (in_object HasInsertion c.args.reader.now.mode c.in_ok-call.call.mode (members_view c.in_ok-call.call.members) (view c.args.reader.now.value) x c.in_ok-call.ensures.members c.in_ok-call.ensures.mode decoded.0).only)

pub returns-in_err-now-clause-refused : goal.returns-in_err-now-clause-refused
returns-in_err-now-clause-refused c =
    handed_on (Decodes c.args.reader.now.mode (view c.args.reader.now.value)) c.from_residual-in_err-now.result c.in_err-now.field-0.0 c.from_residual-in_err-now.ensures.1
    (λ refusal x decoded. c.in_err-now.ensures.refused refusal x.now (in_object HasInsertion c.args.reader.now.mode c.in_ok-call.call.mode (members_view c.in_ok-call.call.members) (view c.args.reader.now.value) x c.in_ok-call.ensures.members c.in_ok-call.ensures.mode decoded.0).now)

pub returns-in_err-starts-clause-refused : goal.returns-in_err-starts-clause-refused
returns-in_err-starts-clause-refused c =
    handed_on (Decodes c.args.reader.now.mode (view c.args.reader.now.value)) c.from_residual-in_err-starts.result c.in_err-starts.field-0.0 c.from_residual-in_err-starts.ensures.1
    (λ refusal x decoded.
    let is = (in_object HasInsertion c.args.reader.now.mode c.in_ok-call.call.mode (members_view c.in_ok-call.call.members) (view c.args.reader.now.value) x c.in_ok-call.ensures.members c.in_ok-call.ensures.mode decoded.0) in
    let same : x.now ≡ c.in_ok-now.now = one_there IsNow one_now (get_member (codes "now") (members_view c.in_ok-call.call.members)) x.now c.in_ok-now.now is.now c.in_ok-now.ensures.decoded in
    c.in_err-starts.ensures.refused refusal is.starts (subst (λ (n : ℕ). HasOr IsTime n (codes "starts") (members_view c.in_ok-call.call.members) is.starts) same is.has_starts))

pub returns-in_err-ends-clause-refused : goal.returns-in_err-ends-clause-refused
returns-in_err-ends-clause-refused c =
    handed_on (Decodes c.args.reader.now.mode (view c.args.reader.now.value)) c.from_residual-in_err-ends.result c.in_err-ends.field-0.0 c.from_residual-in_err-ends.ensures.1
    (λ refusal x decoded. c.in_err-ends.ensures.refused refusal (in_object HasInsertion c.args.reader.now.mode c.in_ok-call.call.mode (members_view c.in_ok-call.call.members) (view c.args.reader.now.value) x c.in_ok-call.ensures.members c.in_ok-call.ensures.mode decoded.0).ends (in_object HasInsertion c.args.reader.now.mode c.in_ok-call.call.mode (members_view c.in_ok-call.call.members) (view c.args.reader.now.value) x c.in_ok-call.ensures.members c.in_ok-call.ensures.mode decoded.0).has_ends)

pub returns-in_err-labels-clause-refused : goal.returns-in_err-labels-clause-refused
returns-in_err-labels-clause-refused c =
    handed_on (Decodes c.args.reader.now.mode (view c.args.reader.now.value)) c.from_residual-in_err-labels.result c.in_err-labels.field-0.0 c.from_residual-in_err-labels.ensures.1
    (λ refusal x decoded. c.in_err-labels.ensures.refused refusal (in_object HasInsertion c.args.reader.now.mode c.in_ok-call.call.mode (members_view c.in_ok-call.call.members) (view c.args.reader.now.value) x c.in_ok-call.ensures.members c.in_ok-call.ensures.mode decoded.0).labels ((in_object HasInsertion c.args.reader.now.mode c.in_ok-call.call.mode (members_view c.in_ok-call.call.members) (view c.args.reader.now.value) x c.in_ok-call.ensures.members c.in_ok-call.ensures.mode decoded.0).has_labels, sure))

pub returns-in_err-alert-clause-refused : goal.returns-in_err-alert-clause-refused
returns-in_err-alert-clause-refused c =
    handed_on (Decodes c.args.reader.now.mode (view c.args.reader.now.value)) c.from_residual-in_err-alert.result c.in_err-alert.field-0.0 c.from_residual-in_err-alert.ensures.1
    (λ refusal x decoded.
    let is = (in_object HasInsertion c.args.reader.now.mode c.in_ok-call.call.mode (members_view c.in_ok-call.call.members) (view c.args.reader.now.value) x c.in_ok-call.ensures.members c.in_ok-call.ensures.mode decoded.0) in
    let same : x.now ≡ c.in_ok-now.now = one_there IsNow one_now (get_member (codes "now") (members_view c.in_ok-call.call.members)) x.now c.in_ok-now.now is.now c.in_ok-now.ensures.decoded in
    let count : length is.labels ≡ length c.in_ok-labels.labels = both_there (DecodesToLabels c.in_ok-call.call.mode) (λ ls ms. length ls ≡ length ms) (one_length c.in_ok-call.call.mode) (get_member (codes "labels") (members_view c.in_ok-call.call.members)) is.labels c.in_ok-labels.labels is.has_labels c.in_ok-labels.ensures.decoded in
    let moved : HasOr IsTime c.in_ok-now.now (codes "starts") (members_view c.in_ok-call.call.members) is.starts = subst (λ (n : ℕ). HasOr IsTime n (codes "starts") (members_view c.in_ok-call.call.members) is.starts) same is.has_starts in
    let starts : is.starts ≡ c.in_ok-starts.starts = one_or IsTime (one_read time_in) c.in_ok-now.now (get_member (codes "starts") (members_view c.in_ok-call.call.members)) is.starts c.in_ok-starts.starts moved c.in_ok-starts.ensures.decoded in
    let ends : is.ends ≡ c.in_ok-ends.ends = one_or IsEnd one_end None (get_member (codes "ends") (members_view c.in_ok-call.call.members)) is.ends c.in_ok-ends.ends is.has_ends c.in_ok-ends.ensures.decoded in
    c.in_err-alert.ensures.refused (sym (same_fault is.labels c.in_ok-labels.labels is.starts c.in_ok-starts.starts is.ends c.in_ok-ends.ends count starts ends) ∙ ap alert_fault (sym is.is) ∙ is.sound))
