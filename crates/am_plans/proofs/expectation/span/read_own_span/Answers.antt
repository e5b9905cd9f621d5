use Rattle.std.proofs.Common.{ℕ}
use Rattle.serde_json.specs.View.{members_view}
use Rattle.am_json.proofs.Decoding.{handed_on, narrowed}
use Rattle.am_plans.specs.Expected.{IsOwnSpan, IsSpanFrom}
use Rattle.am_plans.proofs.expectation.span.read_own_span.Goals as goal

pub returns-in_err-refuse-clause-refused : goal.returns-in_err-refuse-clause-refused
returns-in_err-refuse-clause-refused c =
    handed_on (λ (s : ℕ × ℕ). IsOwnSpan c.args.until c.args.last (members_view c.args.item.now.members) s.0 s.1) c.from_residual.result c.in_err-refuse.field-0.0 c.from_residual.ensures.1
    (λ refusal s decoded. c.in_err-refuse.ensures.there decoded.0)

pub returns-in_err-refuse-2-clause-refused : goal.returns-in_err-refuse-2-clause-refused
returns-in_err-refuse-2-clause-refused c =
    handed_on (λ (s : ℕ × ℕ). IsOwnSpan c.args.until c.args.last (members_view c.args.item.now.members) s.0 s.1) c.from_residual-in_err-refuse-2.result c.in_err-refuse-2.field-0.0 c.from_residual-in_err-refuse-2.ensures.1
    (λ refusal s decoded. c.in_err-refuse-2.ensures.there decoded.1)

pub returns-clause-refused : goal.returns-clause-refused
returns-clause-refused c =
    let members = members_view c.args.item.now.members in
    narrowed (λ (s : ℕ × ℕ). IsSpanFrom c.args.until c.args.last members s.0 s.1) (λ (s : ℕ × ℕ). IsOwnSpan c.args.until c.args.last members s.0 s.1)
    (λ s decoded. decoded.2) c.read_times.result c.read_times.ensures.refused
