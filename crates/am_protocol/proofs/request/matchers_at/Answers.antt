use Rattle.std.proofs.Common.{◌≤◌, List, codes, length}
use Rattle.std.specs.Prelude.{IsTrue}
use Rattle.serde_json.specs.Find.{get_member}
use Rattle.serde_json.specs.View.{members_view, view}
use Rattle.am_alerts.specs.Matcher.{compare_texts}
use Rattle.am_alerts.specs.declared.limits.TheConstants.{MAX_MATCHERS}
use Rattle.am_alerts.specs.declared.matcher.MatcherParts.{MatcherParts}
use Rattle.am_json.specs.Configured.{DecodesToMatcher}
use Rattle.am_json.specs.Decoding.{Has, IsList}
use Rattle.am_json.proofs.Decoding.{as_listed, handed_on, listed_in, missing}
use Rattle.am_protocol.proofs.request.matchers_at.Goals as goal

pub returns-clause-decoded : goal.returns-clause-decoded
returns-clause-decoded c =
    let members = members_view c.args.call.now.members in
    as_listed DecodesToMatcher c.args.call.now.mode c.in_ok-listed.listed.mode (view c.in_ok-listed.listed.value) (get_member (codes "matchers") members) c.in_ok-matchers.matchers.items
    c.in_ok-listed.ensures.value c.in_ok-listed.ensures.mode c.in_ok-matchers.ensures.decoded

pub returns-in_err-listed-clause-refused : goal.returns-in_err-listed-clause-refused
returns-in_err-listed-clause-refused c =
    let members = members_view c.args.call.now.members in
    let Decodes = λ (x : List MatcherParts). Has (IsList (DecodesToMatcher c.args.call.now.mode)) (codes "matchers") members x × IsTrue (compare_texts x) × (length x ≤ MAX_MATCHERS) in
    handed_on Decodes c.from_residual.result c.in_err-listed.field-0.0 c.from_residual.ensures.1
    (λ refusal x decoded. missing (λ v. IsList (DecodesToMatcher c.args.call.now.mode) v x) (get_member (codes "matchers") members) c.in_err-listed.ensures.value decoded.0)

pub returns-in_err-matchers-clause-refused : goal.returns-in_err-matchers-clause-refused
returns-in_err-matchers-clause-refused c =
    let members = members_view c.args.call.now.members in
    let Decodes = λ (x : List MatcherParts). Has (IsList (DecodesToMatcher c.args.call.now.mode)) (codes "matchers") members x × IsTrue (compare_texts x) × (length x ≤ MAX_MATCHERS) in
    handed_on Decodes c.from_residual-in_err-matchers.result c.in_err-matchers.field-0.0 c.from_residual-in_err-matchers.ensures.1
    (λ refusal x decoded. c.in_err-matchers.ensures.refused refusal x (
      listed_in DecodesToMatcher c.args.call.now.mode c.in_ok-listed.listed.mode (view c.in_ok-listed.listed.value) (get_member (codes "matchers") members) x
          c.in_ok-listed.ensures.value c.in_ok-listed.ensures.mode decoded.0,
      decoded.1,
      decoded.2,
    ))
