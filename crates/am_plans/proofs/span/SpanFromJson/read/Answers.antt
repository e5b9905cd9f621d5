use Rattle.std.proofs.Common.{true, sym}
use Rattle.std.specs.Prelude.{IsTrue}
use Rattle.serde_json.specs.Data.{Data}
use Rattle.serde_json.specs.Find.{as_object}
use Rattle.serde_json.specs.View.{members_view, view}
use Rattle.am_json.proofs.Decoding.{as_decoded, handed_on, in_object, missing, unknown}
use Rattle.am_json.specs.declared.reader.Mode.{Mode}
use Rattle.am_plans.specs.Decoding.{HasSpan, IsSpan}
use Rattle.am_plans.specs.declared.span.Span.{Span}
use Rattle.am_plans.proofs.span.SpanFromJson.read.Goals as goal

-- what is never refused
abbrev Decodes : Mode → Data → Span → Type 0
Decodes mode value span = IsSpan mode value span × IsTrue true

pub returns-clause-decoded : goal.returns-clause-decoded
returns-clause-decoded c =
    let o = c.in_ok-span.span in
    let has : HasSpan o.mode (members_view o.members) c.in_ok-of.field-0 = record { only = sym c.in_ok-only.ensures.known; decoded = c.in_ok-of.ensures.decoded } in
    as_decoded HasSpan c.args.reader.now.mode o.mode (members_view o.members) (view c.args.reader.now.value) c.in_ok-of.field-0
    c.in_ok-span.ensures.members c.in_ok-span.ensures.mode has

pub returns-in_err-span-clause-refused : goal.returns-in_err-span-clause-refused
returns-in_err-span-clause-refused c =
    handed_on (Decodes c.args.reader.now.mode (view c.args.reader.now.value)) c.from_residual.result c.in_err-span.field-0.0 c.from_residual.ensures.1
    (λ refusal x decoded. missing (λ ms. HasSpan c.args.reader.now.mode ms x) (as_object (view c.args.reader.now.value)) c.in_err-span.ensures.members decoded.0)

pub returns-in_err-only-clause-refused : goal.returns-in_err-only-clause-refused
returns-in_err-only-clause-refused c =
    handed_on (Decodes c.args.reader.now.mode (view c.args.reader.now.value)) c.from_residual-in_err-only.result c.in_err-only.field-0.0 c.from_residual-in_err-only.ensures.1
    (λ refusal x decoded. unknown _ c.in_err-only.ensures.known (in_object HasSpan c.args.reader.now.mode c.in_ok-span.span.mode (members_view c.in_ok-span.span.members) (view c.args.reader.now.value) x c.in_ok-span.ensures.members c.in_ok-span.ensures.mode decoded.0).only)

pub returns-in_err-of-clause-refused : goal.returns-in_err-of-clause-refused
returns-in_err-of-clause-refused c =
    handed_on (Decodes c.args.reader.now.mode (view c.args.reader.now.value)) c.from_residual-in_err-of.result c.in_err-of.field-0.0 c.from_residual-in_err-of.ensures.1
    (λ refusal x decoded. c.in_err-of.ensures.refused refusal x (in_object HasSpan c.args.reader.now.mode c.in_ok-span.span.mode (members_view c.in_ok-span.span.members) (view c.args.reader.now.value) x c.in_ok-span.ensures.members c.in_ok-span.ensures.mode decoded.0).decoded)
