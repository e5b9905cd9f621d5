use Rattle.std.proofs.Common.{ℕ, codes}
use Rattle.serde_json.specs.Find.{get_member}
use Rattle.serde_json.specs.View.{members_view, view}
use Rattle.am_json.proofs.Decoding.{handed_on, narrowed}
use Rattle.am_json.specs.Decoding.{HasNone}
use Rattle.am_plans.proofs.Decodings.{found_none}
use Rattle.am_plans.proofs.ExpectedSpans.{DecodesSpan, DecodesWithin, together_with_within}
use Rattle.am_plans.specs.Expected.{IsOwnSpan, IsSpanWithin}
use Rattle.am_plans.proofs.expectation.span.read_span.Goals as goal

pub returns-in_default-clause-refused : goal.returns-in_default-clause-refused
returns-in_default-clause-refused c =
    let d = c.args.item.now.mode in
    let members = members_view c.args.item.now.members in
    narrowed (λ (s : ℕ × ℕ). IsOwnSpan c.args.until c.args.last members s.0 s.1) (DecodesSpan d c.args.until c.args.last c.args.plans.now members)
    (λ s decoded. found_none (IsOwnSpan c.args.until c.args.last members s.0 s.1)
    (λ w. HasNone (codes "at") members × HasNone (codes "from") members × HasNone (codes "to") members × IsSpanWithin d c.args.last c.args.plans.now members w s.0 s.1)
    (get_member (codes "within") members) c.in_default.ensures.value decoded.0)
    c.read_own_span.result c.read_own_span.ensures.refused

pub returns-in_err-refuse_together-clause-refused : goal.returns-in_err-refuse_together-clause-refused
returns-in_err-refuse_together-clause-refused c =
    let d = c.args.item.now.mode in
    let members = members_view c.args.item.now.members in
    handed_on (DecodesSpan d c.args.until c.args.last c.args.plans.now members) c.from_residual.result c.in_err-refuse_together.field-0.0 c.from_residual.ensures.1
    (λ refusal s decoded. c.in_err-refuse_together.ensures.there
    (together_with_within d c.args.until c.args.last c.args.plans.now members (view c.in-Some.within.value) s.0 s.1 c.in-Some.ensures.value decoded.0).0)

pub returns-in_err-refuse_together-2-clause-refused : goal.returns-in_err-refuse_together-2-clause-refused
returns-in_err-refuse_together-2-clause-refused c =
    let d = c.args.item.now.mode in
    let members = members_view c.args.item.now.members in
    handed_on (DecodesSpan d c.args.until c.args.last c.args.plans.now members) c.from_residual-in_err-refuse_together-2.result c.in_err-refuse_together-2.field-0.0 c.from_residual-in_err-refuse_together-2.ensures.1
    (λ refusal s decoded. c.in_err-refuse_together-2.ensures.there
    (together_with_within d c.args.until c.args.last c.args.plans.now members (view c.in-Some.within.value) s.0 s.1 c.in-Some.ensures.value decoded.0).1)

pub returns-in_err-refuse_together-3-clause-refused : goal.returns-in_err-refuse_together-3-clause-refused
returns-in_err-refuse_together-3-clause-refused c =
    let d = c.args.item.now.mode in
    let members = members_view c.args.item.now.members in
    handed_on (DecodesSpan d c.args.until c.args.last c.args.plans.now members) c.from_residual-in_err-refuse_together-3.result c.in_err-refuse_together-3.field-0.0 c.from_residual-in_err-refuse_together-3.ensures.1
    (λ refusal s decoded. c.in_err-refuse_together-3.ensures.there
    (together_with_within d c.args.until c.args.last c.args.plans.now members (view c.in-Some.within.value) s.0 s.1 c.in-Some.ensures.value decoded.0).2)

pub returns-clause-refused : goal.returns-clause-refused
returns-clause-refused c =
    let d = c.args.item.now.mode in
    let members = members_view c.args.item.now.members in
    let within = view c.in-Some.within.value in
    narrowed (DecodesWithin d c.args.last c.args.plans.now members within) (DecodesSpan d c.args.until c.args.last c.args.plans.now members)
    (λ s decoded. ((together_with_within d c.args.until c.args.last c.args.plans.now members within s.0 s.1 c.in-Some.ensures.value decoded.0).3, decoded.1))
    c.read_within.result c.read_within.ensures.refused
