use Rattle.std.proofs.Common.{ℕ, sym}
use Rattle.serde_json.specs.View.{members_view, view}
use Rattle.am_json.proofs.Decoding.{handed_on}
use Rattle.am_plans.proofs.Decodings.{none_read}
use Rattle.am_plans.specs.Expected.{IsAt}
use Rattle.am_plans.proofs.expectation.span.read_at.Goals as goal

pub returns-in_err-refuse-clause-refused : goal.returns-in_err-refuse-clause-refused
returns-in_err-refuse-clause-refused c =
    handed_on (λ (s : ℕ × ℕ). IsAt (members_view c.args.item.now.members) (view c.args.at.now.value) s.0 s.1) c.from_residual.result c.in_err-refuse.field-0.0 c.from_residual.ensures.1
    (λ refusal s decoded. c.in_err-refuse.ensures.there decoded.no_from)

pub returns-in_err-refuse-2-clause-refused : goal.returns-in_err-refuse-2-clause-refused
returns-in_err-refuse-2-clause-refused c =
    handed_on (λ (s : ℕ × ℕ). IsAt (members_view c.args.item.now.members) (view c.args.at.now.value) s.0 s.1) c.from_residual-in_err-refuse-2.result c.in_err-refuse-2.field-0.0 c.from_residual-in_err-refuse-2.ensures.1
    (λ refusal s decoded. c.in_err-refuse-2.ensures.there decoded.no_to)

pub returns-in_err-time-clause-refused : goal.returns-in_err-time-clause-refused
returns-in_err-time-clause-refused c =
    handed_on (λ (s : ℕ × ℕ). IsAt (members_view c.args.item.now.members) (view c.args.at.now.value) s.0 s.1) c.from_residual-in_err-time.result c.in_err-time.field-0.0 c.from_residual-in_err-time.ensures.1
    (λ refusal s decoded. none_read _ _ (sym c.in_err-time.ensures) decoded.time)
