use Rattle.std.proofs.Common.{◌≡◌, ◌≤◌, ℕ, MatchOption, codes, subst, sym}
use Rattle.serde_json.specs.Find.{get_member}
use Rattle.serde_json.specs.View.{members_view}
use Rattle.am_json.proofs.Decoding.{handed_on}
use Rattle.am_plans.proofs.Decodings.{none_read, same_some}
use Rattle.am_plans.specs.Expected.{IsFromTo}
use Rattle.am_plans.proofs.expectation.span.read_from_to.Goals as goal

pub returns-clause-decoded : goal.returns-clause-decoded
returns-clause-decoded c = record { begins = sym c.in_ok-from.ensures; ends = c.in_ok-to.ensures.to; ordered = c.in_ok-to.ensures.ordered }

pub returns-in_err-from-clause-refused : goal.returns-in_err-from-clause-refused
returns-in_err-from-clause-refused c =
    handed_on (λ (s : ℕ × ℕ). IsFromTo c.args.until c.args.last (members_view c.args.item.now.members) s.0 s.1) c.from_residual.result c.in_err-from.field-0.0 c.from_residual.ensures.1
    (λ refusal s decoded. none_read _ _ (sym c.in_err-from.ensures) decoded.begins)

pub returns-in_err-to-clause-refused : goal.returns-in_err-to-clause-refused
returns-in_err-to-clause-refused c =
    let members = members_view c.args.item.now.members in
    handed_on (λ (s : ℕ × ℕ). IsFromTo c.args.until c.args.last members s.0 s.1) c.from_residual-in_err-to.result c.in_err-to.field-0.0 c.from_residual-in_err-to.ensures.1
    (λ refusal s decoded.
    let same : s.0 ≡ c.in_ok-from.from = same_some decoded.begins (sym c.in_ok-from.ensures) in
    c.in_err-to.ensures.refused refusal s.1
    (decoded.ends, subst (λ (from : ℕ). MatchOption (get_member (codes "to") members) (from ≤ c.args.last) (λ t. from ≤ s.1)) same decoded.ordered))
