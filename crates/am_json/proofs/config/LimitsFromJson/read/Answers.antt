use Rattle.std.proofs.Common.{◌≡◌, ◌∙◌, Some, true, ap, codes, subst, sym}
use Rattle.std.specs.Prelude.{IsTrue}
use Rattle.serde_json.specs.Data.{Data}
use Rattle.serde_json.specs.View.{members_view, view}
use Rattle.am_json.specs.Read.{ObjectData}
use Rattle.am_json.specs.declared.reader.Mode.{Mode}
use Rattle.serde_json.specs.Find.{as_object}
use Rattle.am_model.specs.declared.config.Limits.{Limits}
use Rattle.am_json.specs.Configured.{DecodesToLimits, HasLimits, limits_in}
use Rattle.am_json.specs.Decoding.{HasOr, IsNumber}
use Rattle.am_json.proofs.Decoding.{as_decoded, handed_on, in_object, missing, unknown}
use Rattle.am_json.proofs.config.LimitsFromJson.read.Goals as goal

-- what is never refused
abbrev Decodes : Mode → Data → Limits → Type 0
Decodes mode value limits = DecodesToLimits mode value limits × IsTrue true

inside : (mode : Mode) (value : Data) (o : ObjectData) (limits : Limits) → Some (members_view o.members) ≡ as_object value → o.mode ≡ mode
    → Decodes mode value limits → HasLimits o.mode (members_view o.members) limits
inside mode value o limits is same decoded = in_object HasLimits mode o.mode (members_view o.members) value limits is same decoded.0

pub returns-clause-decoded : goal.returns-clause-decoded
returns-clause-decoded c =
    let o = c.in_ok-limits.limits in
    let members = members_view o.members in
    let limits : Limits = record { alerts = c.in_ok-read_limit.field-0; groups = c.in_ok-read_limit-2.field-0; silences = c.in_ok-read_limit-3.field-0; flushes = c.in_ok-read_limit-4.field-0; history = c.in_ok-read_limit-5.field-0 } in
    let has : HasLimits o.mode members limits = record {
      only = sym c.in_ok-only.ensures.known;
      alerts = subst (λ (l : Limits). HasOr IsNumber l.alerts (codes "names") members limits.alerts) (c.limits_in-most.ensures ∙ ap limits_in c.mode.ensures) c.in_ok-read_limit.ensures.decoded;
      groups = subst (λ (l : Limits). HasOr IsNumber l.groups (codes "groups") members limits.groups) (c.limits_in-most.ensures ∙ ap limits_in c.mode.ensures) c.in_ok-read_limit-2.ensures.decoded;
      silences = subst (λ (l : Limits). HasOr IsNumber l.silences (codes "silences") members limits.silences) (c.limits_in-most.ensures ∙ ap limits_in c.mode.ensures) c.in_ok-read_limit-3.ensures.decoded;
      flushes = subst (λ (l : Limits). HasOr IsNumber l.flushes (codes "flushes") members limits.flushes) (c.limits_in-most.ensures ∙ ap limits_in c.mode.ensures) c.in_ok-read_limit-4.ensures.decoded;
      history = subst (λ (l : Limits). HasOr IsNumber l.history (codes "history") members limits.history) (c.limits_in-most.ensures ∙ ap limits_in c.mode.ensures) c.in_ok-read_limit-5.ensures.decoded;
    } in
    as_decoded HasLimits c.args.reader.now.mode o.mode members (view c.args.reader.now.value) limits c.in_ok-limits.ensures.members
    c.in_ok-limits.ensures.mode has

pub returns-in_err-limits-clause-refused : goal.returns-in_err-limits-clause-refused
returns-in_err-limits-clause-refused c =
    handed_on (Decodes c.args.reader.now.mode (view c.args.reader.now.value)) c.from_residual.result c.in_err-limits.field-0.0 c.from_residual.ensures.1
    (λ refusal x decoded. missing (λ ms. HasLimits c.args.reader.now.mode ms x) (as_object (view c.args.reader.now.value)) c.in_err-limits.ensures.members decoded.0)

pub returns-in_err-only-clause-refused : goal.returns-in_err-only-clause-refused
returns-in_err-only-clause-refused c =
    handed_on (Decodes c.args.reader.now.mode (view c.args.reader.now.value)) c.from_residual-in_err-only.result c.in_err-only.field-0.0 c.from_residual-in_err-only.ensures.1
    (λ refusal x decoded. unknown _ c.in_err-only.ensures.known (inside c.args.reader.now.mode (view c.args.reader.now.value) c.in_ok-limits.limits x c.in_ok-limits.ensures.members c.in_ok-limits.ensures.mode decoded).only)

pub returns-in_err-read_limit-clause-refused : goal.returns-in_err-read_limit-clause-refused
returns-in_err-read_limit-clause-refused c =
    handed_on (Decodes c.args.reader.now.mode (view c.args.reader.now.value)) c.from_residual-in_err-read_limit.result c.in_err-read_limit.field-0.0 c.from_residual-in_err-read_limit.ensures.1
    (λ refusal x decoded. c.in_err-read_limit.ensures.refused refusal x.alerts
    (subst (λ (l : Limits). HasOr IsNumber l.alerts (codes "names") (members_view c.in_ok-limits.limits.members) x.alerts) (sym (c.limits_in-most.ensures ∙ ap limits_in c.mode.ensures))
    (inside c.args.reader.now.mode (view c.args.reader.now.value) c.in_ok-limits.limits x c.in_ok-limits.ensures.members c.in_ok-limits.ensures.mode decoded).alerts))

pub returns-in_err-read_limit-2-clause-refused : goal.returns-in_err-read_limit-2-clause-refused
returns-in_err-read_limit-2-clause-refused c =
    handed_on (Decodes c.args.reader.now.mode (view c.args.reader.now.value)) c.from_residual-in_err-read_limit-2.result c.in_err-read_limit-2.field-0.0 c.from_residual-in_err-read_limit-2.ensures.1
    (λ refusal x decoded. c.in_err-read_limit-2.ensures.refused refusal x.groups
    (subst (λ (l : Limits). HasOr IsNumber l.groups (codes "groups") (members_view c.in_ok-limits.limits.members) x.groups) (sym (c.limits_in-most.ensures ∙ ap limits_in c.mode.ensures))
    (inside c.args.reader.now.mode (view c.args.reader.now.value) c.in_ok-limits.limits x c.in_ok-limits.ensures.members c.in_ok-limits.ensures.mode decoded).groups))

pub returns-in_err-read_limit-3-clause-refused : goal.returns-in_err-read_limit-3-clause-refused
returns-in_err-read_limit-3-clause-refused c =
    handed_on (Decodes c.args.reader.now.mode (view c.args.reader.now.value)) c.from_residual-in_err-read_limit-3.result c.in_err-read_limit-3.field-0.0 c.from_residual-in_err-read_limit-3.ensures.1
    (λ refusal x decoded. c.in_err-read_limit-3.ensures.refused refusal x.silences
    (subst (λ (l : Limits). HasOr IsNumber l.silences (codes "silences") (members_view c.in_ok-limits.limits.members) x.silences) (sym (c.limits_in-most.ensures ∙ ap limits_in c.mode.ensures))
    (inside c.args.reader.now.mode (view c.args.reader.now.value) c.in_ok-limits.limits x c.in_ok-limits.ensures.members c.in_ok-limits.ensures.mode decoded).silences))

pub returns-in_err-read_limit-4-clause-refused : goal.returns-in_err-read_limit-4-clause-refused
returns-in_err-read_limit-4-clause-refused c =
    handed_on (Decodes c.args.reader.now.mode (view c.args.reader.now.value)) c.from_residual-in_err-read_limit-4.result c.in_err-read_limit-4.field-0.0 c.from_residual-in_err-read_limit-4.ensures.1
    (λ refusal x decoded. c.in_err-read_limit-4.ensures.refused refusal x.flushes
    (subst (λ (l : Limits). HasOr IsNumber l.flushes (codes "flushes") (members_view c.in_ok-limits.limits.members) x.flushes) (sym (c.limits_in-most.ensures ∙ ap limits_in c.mode.ensures))
    (inside c.args.reader.now.mode (view c.args.reader.now.value) c.in_ok-limits.limits x c.in_ok-limits.ensures.members c.in_ok-limits.ensures.mode decoded).flushes))

pub returns-in_err-read_limit-5-clause-refused : goal.returns-in_err-read_limit-5-clause-refused
returns-in_err-read_limit-5-clause-refused c =
    handed_on (Decodes c.args.reader.now.mode (view c.args.reader.now.value)) c.from_residual-in_err-read_limit-5.result c.in_err-read_limit-5.field-0.0 c.from_residual-in_err-read_limit-5.ensures.1
    (λ refusal x decoded. c.in_err-read_limit-5.ensures.refused refusal x.history
    (subst (λ (l : Limits). HasOr IsNumber l.history (codes "history") (members_view c.in_ok-limits.limits.members) x.history) (sym (c.limits_in-most.ensures ∙ ap limits_in c.mode.ensures))
    (inside c.args.reader.now.mode (view c.args.reader.now.value) c.in_ok-limits.limits x c.in_ok-limits.ensures.members c.in_ok-limits.ensures.mode decoded).history))
