use Rattle.std.proofs.Common.{◌≡◌, ◌∙◌, ◌∷◌, List, [], Some, None, ap, codes, subst, sym}
use Rattle.std.specs.Prelude.{IsTrue}
use Rattle.serde_json.specs.Data.{Data, Members}
use Rattle.serde_json.specs.Find.{get_member}
use Rattle.serde_json.specs.View.{members_view, view}
use Rattle.am_json.proofs.Decoding.{all_sure, found, handed_on, starved}
use Rattle.am_json.proofs.Once.{one_list}
use Rattle.am_json.specs.Decoding.{HasNone, IsList}
use Rattle.am_json.specs.declared.reader.Mode.{Mode}
use Rattle.am_plans.proofs.Spans.{one_span}
use Rattle.am_plans.proofs.Decodings.{at_some, found_none}
use Rattle.am_plans.specs.Decoding.{AreSpansIn, DecodesToSpan, IsSpan, follow}
use Rattle.am_plans.specs.declared.span.Span.{Span}
use Rattle.am_plans.proofs.alert.read_spans.Goals as goal

-- what is given where there is no list
single : (mode : Mode) (members : Members) (spans : List Span) → None ≡ get_member (codes "spans") members → AreSpansIn mode members spans
    → (span : Span) × DecodesToSpan members span × (spans ≡ span ∷ [])
single mode members spans none decoded = found_none _ _ (get_member (codes "spans") members) none decoded

-- what a list says
listed : (mode : Mode) (members : Members) (value : Data) (spans : List Span) → Some value ≡ get_member (codes "spans") members
    → AreSpansIn mode members spans
    → IsList (IsSpan mode) value spans × HasNone (codes "from") members × HasNone (codes "to") members × IsTrue (follow (Some 0) spans)
listed mode members value spans is decoded =
    found ((span : Span) × DecodesToSpan members span × (spans ≡ span ∷ []))
    (λ v. IsList (IsSpan mode) v spans × HasNone (codes "from") members × HasNone (codes "to") members × IsTrue (follow (Some 0) spans))
    value (get_member (codes "spans") members) is decoded

pub returns-clause-decoded : goal.returns-clause-decoded
returns-clause-decoded c =
    let d = c.args.alert.now.mode in
    let members = members_view c.args.alert.now.members in
    let value = view c.in-Some.listed.value in
    let spans : List Span = c.in_ok-spans.spans.items in
    at_some (get_member (codes "spans") members) value ((span : Span) × DecodesToSpan members span × (spans ≡ span ∷ []))
    (λ v. IsList (IsSpan d) v spans × HasNone (codes "from") members × HasNone (codes "to") members × IsTrue (follow (Some 0) spans))
    c.in-Some.ensures.value (
      subst (λ (e : Mode). IsList (IsSpan e) value spans) c.in-Some.ensures.mode c.in_ok-spans.ensures.decoded,
      c.in_ok-refuse.ensures.none,
      c.in_ok-refuse-2.ensures.none,
      ap (follow (Some 0)) (sym c.as_slice.ensures.value) ∙ sym c.follow_each_other.ensures ∙ c.if-not-follow_each_other.false,
    )

pub returns-in_err-of-clause-refused : goal.returns-in_err-of-clause-refused
returns-in_err-of-clause-refused c =
    handed_on (AreSpansIn c.args.alert.now.mode (members_view c.args.alert.now.members)) c.from_residual.result c.in_err-of.field-0.0 c.from_residual.ensures.1
    (λ refusal x decoded. let one = (single c.args.alert.now.mode (members_view c.args.alert.now.members) x c.in_default.ensures.value decoded) in c.in_err-of.ensures.refused refusal one.0 one.1)

pub returns-in_err-push-clause-refused : goal.returns-in_err-push-clause-refused
returns-in_err-push-clause-refused c = starved (AreSpansIn c.args.alert.now.mode (members_view c.args.alert.now.members)) c.from_residual-in_err-push.result c.from_residual-in_err-push.ensures.1

pub returns-in_err-refuse-clause-refused : goal.returns-in_err-refuse-clause-refused
returns-in_err-refuse-clause-refused c =
    handed_on (AreSpansIn c.args.alert.now.mode (members_view c.args.alert.now.members)) c.from_residual-in_err-refuse.result c.in_err-refuse.field-0.0 c.from_residual-in_err-refuse.ensures.1
    (λ refusal x decoded. c.in_err-refuse.ensures.there (listed c.args.alert.now.mode (members_view c.args.alert.now.members) (view c.in-Some.listed.value) x c.in-Some.ensures.value decoded).1)

pub returns-in_err-refuse-2-clause-refused : goal.returns-in_err-refuse-2-clause-refused
returns-in_err-refuse-2-clause-refused c =
    handed_on (AreSpansIn c.args.alert.now.mode (members_view c.args.alert.now.members)) c.from_residual-in_err-refuse-2.result c.in_err-refuse-2.field-0.0 c.from_residual-in_err-refuse-2.ensures.1
    (λ refusal x decoded. c.in_err-refuse-2.ensures.there (listed c.args.alert.now.mode (members_view c.args.alert.now.members) (view c.in-Some.listed.value) x c.in-Some.ensures.value decoded).2)

pub returns-in_err-spans-clause-refused : goal.returns-in_err-spans-clause-refused
returns-in_err-spans-clause-refused c =
    handed_on (AreSpansIn c.args.alert.now.mode (members_view c.args.alert.now.members)) c.from_residual-in_err-spans.result c.in_err-spans.field-0.0 c.from_residual-in_err-spans.ensures.1
    (λ refusal x decoded. c.in_err-spans.ensures.refused refusal x (subst (λ (d : Mode). IsList (IsSpan d) (view c.in-Some.listed.value) x) (sym c.in-Some.ensures.mode) (listed c.args.alert.now.mode (members_view c.args.alert.now.members) (view c.in-Some.listed.value) x c.in-Some.ensures.value decoded).0, all_sure x))

-- spans that don't follow each other
pub returns-then-not-follow_each_other-clause-refused : goal.returns-then-not-follow_each_other-clause-refused
returns-then-not-follow_each_other-clause-refused c refusal x decoded =
    let spans = c.in_ok-spans.spans.items in
    let list = (listed c.args.alert.now.mode (members_view c.args.alert.now.members) (view c.in-Some.listed.value) x c.in-Some.ensures.value decoded) in
    let read = subst (λ (d : Mode). IsList (IsSpan d) (view c.in-Some.listed.value) spans) c.in-Some.ensures.mode c.in_ok-spans.ensures.decoded in
    let same : x ≡ spans = one_list (IsSpan c.args.alert.now.mode) (one_span c.args.alert.now.mode) (view c.in-Some.listed.value) x spans list.0 read in
    absurd (cc (ap (follow (Some 0)) same, ap (follow (Some 0)) c.as_slice.ensures.value, list.3, c.follow_each_other.ensures))
