use Rattle.std.proofs.Common.{Bool, not, codes, subst, sym}
use Rattle.serde_json.specs.Data.{Members}
use Rattle.serde_json.specs.View.{members_view}
use Rattle.am_json.proofs.Decoding.{handed_on}
use Rattle.am_json.specs.declared.reader.Mode.{Mode}
use Rattle.am_plans.proofs.Decodings.{none_read, same_some}
use Rattle.am_plans.proofs.NoRegex.{no_regex_said}
use Rattle.am_plans.specs.Expected.{AreMatchersIn, HasContentIn, HasNoRegex, said_or_of}
use Rattle.am_terms.specs.declared.expectation.Content.{Content}
use Rattle.am_plans.proofs.expectation.content.read_content.Goals as goal

abbrev Decodes : Mode → Members → Content → Type 0
Decodes mode members content = HasContentIn mode members content × HasNoRegex mode members

pub returns-clause-decoded : goal.returns-clause-decoded
returns-clause-decoded c =
    record {
      resolves = c.in_ok-resolves.resolves;
      when = sym c.in_ok-resolves.ensures;
      has = c.in_ok-has.ensures.decoded;
      has_resolved = c.in_ok-has_resolved.ensures.decoded;
      firing = c.in_ok-firing.ensures.decoded;
      resolved = c.in_ok-resolved.ensures.decoded;
      exactly = c.in_ok-check_exactly.ensures.alone;
      reason = sym c.in_ok-reason.ensures;
    }

pub returns-in_err-resolves-clause-refused : goal.returns-in_err-resolves-clause-refused
returns-in_err-resolves-clause-refused c =
    handed_on (Decodes c.args.item.now.mode (members_view c.args.item.now.members)) c.from_residual.result c.in_err-resolves.field-0.0 c.from_residual.ensures.1
    (λ refusal x decoded. none_read _ _ (sym c.in_err-resolves.ensures) decoded.0.when)

pub returns-in_err-has-clause-refused : goal.returns-in_err-has-clause-refused
returns-in_err-has-clause-refused c =
    let d = c.args.item.now.mode in
    let members = members_view c.args.item.now.members in
    handed_on (Decodes d members) c.from_residual-in_err-has.result c.in_err-has.field-0.0 c.from_residual-in_err-has.ensures.1
    (λ refusal x decoded.
    let when = same_some decoded.0.when (sym c.in_ok-resolves.ensures) in
    let has = subst (λ (r : Bool). AreMatchersIn d (said_or_of (not r) (codes "has") members) x.has) when decoded.0.has in
    c.in_err-has.ensures.refused refusal x.has
    (has, no_regex_said d (not c.in_ok-resolves.resolves) (codes "has") members x.has decoded.1.has decoded.1.of has))

pub returns-in_err-has_resolved-clause-refused : goal.returns-in_err-has_resolved-clause-refused
returns-in_err-has_resolved-clause-refused c =
    let d = c.args.item.now.mode in
    let members = members_view c.args.item.now.members in
    handed_on (Decodes d members) c.from_residual-in_err-has_resolved.result c.in_err-has_resolved.field-0.0 c.from_residual-in_err-has_resolved.ensures.1
    (λ refusal x decoded.
    let when = same_some decoded.0.when (sym c.in_ok-resolves.ensures) in
    let has = subst (λ (r : Bool). AreMatchersIn d (said_or_of r (codes "has_resolved") members) x.has_resolved) when decoded.0.has_resolved in
    c.in_err-has_resolved.ensures.refused refusal x.has_resolved
    (has, no_regex_said d c.in_ok-resolves.resolves (codes "has_resolved") members x.has_resolved decoded.1.has_resolved decoded.1.of has))

pub returns-in_err-check_exactly-clause-refused : goal.returns-in_err-check_exactly-clause-refused
returns-in_err-check_exactly-clause-refused c =
    handed_on (Decodes c.args.item.now.mode (members_view c.args.item.now.members)) c.from_residual-in_err-check_exactly.result c.in_err-check_exactly.field-0.0 c.from_residual-in_err-check_exactly.ensures.1
    (λ refusal x decoded. c.in_err-check_exactly.ensures.refused decoded.0.exactly)

pub returns-in_err-firing-clause-refused : goal.returns-in_err-firing-clause-refused
returns-in_err-firing-clause-refused c =
    handed_on (Decodes c.args.item.now.mode (members_view c.args.item.now.members)) c.from_residual-in_err-firing.result c.in_err-firing.field-0.0 c.from_residual-in_err-firing.ensures.1
    (λ refusal x decoded. c.in_err-firing.ensures.refused refusal x.firing decoded.0.firing)

pub returns-in_err-resolved-clause-refused : goal.returns-in_err-resolved-clause-refused
returns-in_err-resolved-clause-refused c =
    handed_on (Decodes c.args.item.now.mode (members_view c.args.item.now.members)) c.from_residual-in_err-resolved.result c.in_err-resolved.field-0.0 c.from_residual-in_err-resolved.ensures.1
    (λ refusal x decoded. c.in_err-resolved.ensures.refused refusal x.resolved decoded.0.resolved)

pub returns-in_err-reason-clause-refused : goal.returns-in_err-reason-clause-refused
returns-in_err-reason-clause-refused c =
    handed_on (Decodes c.args.item.now.mode (members_view c.args.item.now.members)) c.from_residual-in_err-reason.result c.in_err-reason.field-0.0 c.from_residual-in_err-reason.ensures.1
    (λ refusal x decoded. none_read _ _ (sym c.in_err-reason.ensures) decoded.0.reason)
