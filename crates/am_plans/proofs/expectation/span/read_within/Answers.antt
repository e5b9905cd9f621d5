use Rattle.std.proofs.Common.{◌≡◌, ◌∙◌, ℕ, List, Some, codes, subst, sym}
use Rattle.std.specs.Prelude.{IsSomeAnd}
use Rattle.serde_json.specs.Find.{get_member}
use Rattle.serde_json.specs.View.{members_view, view}
use Rattle.am_alerts.specs.declared.matcher.MatcherParts.{MatcherParts}
use Rattle.am_json.proofs.Decoding.{as_decoded_in, handed_on, missing, decoded_in}
use Rattle.am_json.specs.Read.{duration_in}
use Rattle.am_plans.proofs.Decodings.{none_read, same_some}
use Rattle.am_plans.proofs.ExpectedSpans.{DecodesWithin, are_listed, one_of}
use Rattle.am_plans.specs.Expected.{AreMatchersOf, IsEndOf, first_insert}
use Rattle.am_plans.proofs.expectation.span.read_within.Goals as goal

pub returns-clause-decoded : goal.returns-clause-decoded
returns-clause-decoded c =
    let members = members_view c.args.item.now.members in
    let of = c.in_ok-of.of in
    let matchers : List MatcherParts = c.in_ok-matchers.matchers in
    record {
      resolves = c.in_ok-resolves.resolves;
      when = sym c.in_ok-resolves.ensures;
      matchers = matchers;
      of = as_decoded_in AreMatchersOf c.args.item.now.mode of.mode (view of.value) (get_member (codes "of") members) matchers c.in_ok-of.ensures.value
          c.in_ok-of.ensures.mode c.in_ok-matchers.ensures.decoded;
      first = subst (λ (ms : List MatcherParts). first_insert c.args.last c.in_ok-resolves.resolves ms c.args.plans.now ≡ Some c.in_ok-from.from) c.as_slice.ensures
          c.in_ok-from.ensures.first;
      last = c.in_ok-to.ensures.last;
    }

pub returns-in_err-resolves-clause-refused : goal.returns-in_err-resolves-clause-refused
returns-in_err-resolves-clause-refused c =
    handed_on (DecodesWithin c.args.item.now.mode c.args.last c.args.plans.now (members_view c.args.item.now.members) (view c.args.within.now.value)) c.from_residual.result c.in_err-resolves.field-0.0 c.from_residual.ensures.1
    (λ refusal s decoded. none_read _ _ (sym c.in_err-resolves.ensures) decoded.0.when)

pub returns-in_err-of-clause-refused : goal.returns-in_err-of-clause-refused
returns-in_err-of-clause-refused c =
    let members = members_view c.args.item.now.members in
    handed_on (DecodesWithin c.args.item.now.mode c.args.last c.args.plans.now members (view c.args.within.now.value)) c.from_residual-in_err-of.result c.in_err-of.field-0.0 c.from_residual-in_err-of.ensures.1
    (λ refusal s decoded. missing (λ v. AreMatchersOf c.args.item.now.mode v decoded.0.matchers) (get_member (codes "of") members) c.in_err-of.ensures.value decoded.0.of)

pub returns-in_err-matchers-clause-refused : goal.returns-in_err-matchers-clause-refused
returns-in_err-matchers-clause-refused c =
    let members = members_view c.args.item.now.members in
    let d = c.args.item.now.mode in
    let of = c.in_ok-of.of in
    handed_on (DecodesWithin d c.args.last c.args.plans.now members (view c.args.within.now.value)) c.from_residual-in_err-matchers.result c.in_err-matchers.field-0.0 c.from_residual-in_err-matchers.ensures.1
    (λ refusal s decoded. c.in_err-matchers.ensures.refused refusal decoded.0.matchers (
      decoded_in AreMatchersOf d of.mode (view of.value) (get_member (codes "of") members) decoded.0.matchers c.in_ok-of.ensures.value c.in_ok-of.ensures.mode decoded.0.of,
      decoded.1 decoded.0.matchers (are_listed d (get_member (codes "of") members) decoded.0.matchers decoded.0.of),
    ))

-- the matchers that are given are those that were read, and so is when
pub returns-in_err-from-clause-refused : goal.returns-in_err-from-clause-refused
returns-in_err-from-clause-refused c =
    let members = members_view c.args.item.now.members in
    let d = c.args.item.now.mode in
    let of = c.in_ok-of.of in
    let matchers : List MatcherParts = c.in_ok-matchers.matchers in
    let read = as_decoded_in AreMatchersOf d of.mode (view of.value) (get_member (codes "of") members) matchers c.in_ok-of.ensures.value c.in_ok-of.ensures.mode c.in_ok-matchers.ensures.decoded in
    handed_on (DecodesWithin d c.args.last c.args.plans.now members (view c.args.within.now.value)) c.from_residual-in_err-from.result c.in_err-from.field-0.0 c.from_residual-in_err-from.ensures.1
    (λ refusal s decoded.
    let same : c.as_slice.result.now ≡ decoded.0.matchers = c.as_slice.ensures ∙ one_of d (get_member (codes "of") members) matchers decoded.0.matchers
    (decoded.1 decoded.0.matchers (are_listed d (get_member (codes "of") members) decoded.0.matchers decoded.0.of)) read decoded.0.of in
    let when : c.in_ok-resolves.resolves ≡ decoded.0.resolves = same_some (sym c.in_ok-resolves.ensures) decoded.0.when in
    none_read _ _ (c.in_err-from.ensures.refused refusal) ((λ i. first_insert c.args.last (when i) (same i) c.args.plans.now) ∙ decoded.0.first))

pub returns-in_err-to-clause-refused : goal.returns-in_err-to-clause-refused
returns-in_err-to-clause-refused c =
    let members = members_view c.args.item.now.members in
    let d = c.args.item.now.mode in
    let of = c.in_ok-of.of in
    let matchers : List MatcherParts = c.in_ok-matchers.matchers in
    let read = as_decoded_in AreMatchersOf d of.mode (view of.value) (get_member (codes "of") members) matchers c.in_ok-of.ensures.value c.in_ok-of.ensures.mode c.in_ok-matchers.ensures.decoded in
    handed_on (DecodesWithin d c.args.last c.args.plans.now members (view c.args.within.now.value)) c.from_residual-in_err-to.result c.in_err-to.field-0.0 c.from_residual-in_err-to.ensures.1
    (λ refusal s decoded.
    let same : c.as_slice.result.now ≡ decoded.0.matchers = c.as_slice.ensures ∙ one_of d (get_member (codes "of") members) matchers decoded.0.matchers
    (decoded.1 decoded.0.matchers (are_listed d (get_member (codes "of") members) decoded.0.matchers decoded.0.of)) read decoded.0.of in
    let when : c.in_ok-resolves.resolves ≡ decoded.0.resolves = same_some (sym c.in_ok-resolves.ensures) decoded.0.when in
    let from : s.0 ≡ c.in_ok-from.from = same_some decoded.0.first ((λ i. first_insert c.args.last (sym when i) (sym same i) c.args.plans.now) ∙ c.in_ok-from.ensures.first) in
    c.in_err-to.ensures.refused s.1 (subst (λ (f : ℕ). IsSomeAnd (duration_in (view c.args.within.now.value)) (IsEndOf f s.1)) from decoded.0.last))
