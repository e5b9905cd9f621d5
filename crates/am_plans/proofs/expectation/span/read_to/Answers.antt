use Rattle.std.proofs.Common.{◌≡◌, ◌≤◌, ◌∙◌, ℕ, Some, MatchOption, arith, codes, sym}
use Rattle.serde_json.specs.Data.{Members}
use Rattle.serde_json.specs.Find.{get_member}
use Rattle.serde_json.specs.View.{members_view, view}
use Rattle.am_json.proofs.Decoding.{found, handed_on}
use Rattle.am_json.specs.Read.{duration_in}
use Rattle.am_plans.proofs.Decodings.{found_none, none_read, or_found, same_some}
use Rattle.am_plans.specs.Expected.{member_or}
use Rattle.am_plans.proofs.expectation.span.read_to.Goals as goal

abbrev Decodes : Members → ℕ → ℕ → ℕ → ℕ → Type 0
Decodes members from until last to =
    (member_or duration_in (Some until) (get_member (codes "to") members) ≡ Some to) × MatchOption (get_member (codes "to") members) (from ≤ last) (λ t. from ≤ to)

pub returns-in_err-check_begins-clause-refused : goal.returns-in_err-check_begins-clause-refused
returns-in_err-check_begins-clause-refused c =
    let members = members_view c.args.item.now.members in
    handed_on (Decodes members c.args.from c.args.until c.args.last) c.from_residual.result c.in_err-check_begins.field-0.0 c.from_residual.ensures.1
    (λ refusal to decoded.
    let begins = found_none (c.args.from ≤ c.args.last) (λ t. c.args.from ≤ to) (get_member (codes "to") members) c.in_default.ensures.value decoded.1 in
    absurd (omega (arith, begins, c.in_err-check_begins.ensures.refused)))

pub returns-in_err-to-clause-refused : goal.returns-in_err-to-clause-refused
returns-in_err-to-clause-refused c =
    let members = members_view c.args.item.now.members in
    handed_on (Decodes members c.args.from c.args.until c.args.last) c.from_residual-in_err-to.result c.in_err-to.field-0.0 c.from_residual-in_err-to.ensures.1
    (λ refusal to decoded. none_read _ _
    (or_found duration_in (Some c.args.until) (view c.in-Some.member.value) (get_member (codes "to") members) c.in-Some.ensures.value ∙ sym c.in_err-to.ensures) decoded.0)

-- an end before the beginning
pub returns-then-to-from-clause-refused : goal.returns-then-to-from-clause-refused
returns-then-to-from-clause-refused c refusal to decoded =
    let members = members_view c.args.item.now.members in
    let ordered = found (c.args.from ≤ c.args.last) (λ t. c.args.from ≤ to) (view c.in-Some.member.value) (get_member (codes "to") members) c.in-Some.ensures.value decoded.1 in
    let same : to ≡ c.in_ok-to.to =
    same_some decoded.0 (or_found duration_in (Some c.args.until) (view c.in-Some.member.value) (get_member (codes "to") members) c.in-Some.ensures.value ∙ sym c.in_ok-to.ensures) in
    absurd (omega (arith, ordered, same, c.if-to-from.true))
