use Rattle.std.proofs.Common.{List, arith}
use Rattle.std.specs.Prelude.{IsTrue}
use Rattle.serde_json.specs.Data.{Data}
use Rattle.serde_json.specs.Find.{as_array}
use Rattle.serde_json.specs.View.{view}
use Rattle.am_alerts.specs.Matcher.{compare_texts}
use Rattle.am_alerts.specs.declared.matcher.MatcherParts.{MatcherParts}
use Rattle.am_json.proofs.Decoding.{handed_on}
use Rattle.am_json.proofs.Members.{decoded_count}
use Rattle.am_json.specs.Configured.{DecodesToMatcher}
use Rattle.am_json.specs.declared.reader.Mode.{Mode}
use Rattle.am_plans.specs.Expected.{AreMatchersOf}
use Rattle.am_plans.proofs.expectation.content.read_matchers.Goals as goal

abbrev Decodes : Mode → Data → List MatcherParts → Type 0
Decodes mode value matchers = AreMatchersOf mode value matchers × IsTrue (compare_texts matchers)

pub returns-in_err-matchers-clause-refused : goal.returns-in_err-matchers-clause-refused
returns-in_err-matchers-clause-refused c =
    handed_on (Decodes c.args.member.now.mode (view c.args.member.now.value)) c.from_residual.result c.in_err-matchers.field-0.0 c.from_residual.ensures.1
    (λ refusal ms decoded. c.in_err-matchers.ensures.refused refusal ms (decoded.0.listed, decoded.1, decoded.0.few))

-- no matchers
pub returns-then-is_empty-clause-refused : goal.returns-then-is_empty-clause-refused
returns-then-is_empty-clause-refused c refusal ms decoded =
    let count = decoded_count (DecodesToMatcher c.args.member.now.mode) (as_array (view c.args.member.now.value)) ms _ c.in_ok-matchers.ensures.count decoded.0.listed in
    absurd (grind (arith, count, decoded.0.some))
