use Rattle.std.proofs.Common.{◌≡◌, ◌<◌, ℕ, codes, subst}
use Rattle.std.specs.Prelude.{IfSome}
use Rattle.serde_json.specs.Find.{get_member}
use Rattle.serde_json.specs.View.{members_view}
use Rattle.am_json.proofs.Decoding.{decoded_or, handed_on, refused_or}
use Rattle.am_json.proofs.Once.{one_or, one_read}
use Rattle.am_json.specs.Decoding.{IsDuration}
use Rattle.am_json.specs.Read.{duration_in}
use Rattle.am_plans.specs.Decoding.{DecodesToSpan}
use Rattle.am_plans.proofs.span.Span.of.Goals as goal

pub returns-clause-decoded : goal.returns-clause-decoded
returns-clause-decoded c =
    let members = members_view c.args.object.now.members in
    record {
      from = decoded_or duration_in 0 c.in_ok-from.from (get_member (codes "from") members) c.in_ok-from.ensures;
      to = c.in_ok-to.ensures.to;
      later = c.in_ok-to.ensures.later;
    }

pub returns-in_err-from-clause-refused : goal.returns-in_err-from-clause-refused
returns-in_err-from-clause-refused c =
    handed_on (DecodesToSpan (members_view c.args.object.now.members)) c.from_residual.result c.in_err-from.field-0.0 c.from_residual.ensures.1
    (λ refusal x decoded. refused_or duration_in 0 x.from (get_member (codes "from") (members_view c.args.object.now.members)) c.in_err-from.field-0.0 c.in_err-from.ensures decoded.from)

pub returns-in_err-to-clause-refused : goal.returns-in_err-to-clause-refused
returns-in_err-to-clause-refused c =
    handed_on (DecodesToSpan (members_view c.args.object.now.members)) c.from_residual-in_err-to.result c.in_err-to.field-0.0 c.from_residual-in_err-to.ensures.1
    (λ refusal x decoded.
    let begins = decoded_or duration_in 0 c.in_ok-from.from (get_member (codes "from") (members_view c.args.object.now.members)) c.in_ok-from.ensures in
    let same : x.from ≡ c.in_ok-from.from = one_or IsDuration (one_read duration_in) 0 (get_member (codes "from") (members_view c.args.object.now.members)) x.from c.in_ok-from.from decoded.from begins in
    c.in_err-to.ensures.refused refusal x.to (decoded.to, subst (λ (from : ℕ). IfSome x.to (λ to. from < to)) same decoded.later))
