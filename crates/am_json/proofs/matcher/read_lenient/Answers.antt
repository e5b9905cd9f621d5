use Rattle.std.proofs.Common.{◌≡◌, None, subst}
use Rattle.std.proofs.lemmas.Bool.{false≢true}
use Rattle.std.specs.Prelude.{IsTrue}
use Rattle.serde_json.specs.Data.{Data}
use Rattle.serde_json.specs.View.{view}
use Rattle.am_alerts.specs.Matcher.{compares_texts, matcher_fault}
use Rattle.am_alerts.specs.declared.matcher.MatcherParts.{MatcherParts}
use Rattle.am_json.specs.Configured.{DecodesToMatcher}
use Rattle.am_json.specs.declared.reader.Mode.TheVariants.{Lenient}
use Rattle.am_json.proofs.Decoding.{handed_on}
use Rattle.am_json.proofs.Once.{one_three}
use Rattle.am_json.proofs.matcher.read_lenient.Goals as goal

-- what is never refused
abbrev Decodes : Data → MatcherParts → Type 0
Decodes value m = DecodesToMatcher Lenient value m × IsTrue (compares_texts m)

pub returns-in_err-parts-clause-refused : goal.returns-in_err-parts-clause-refused
returns-in_err-parts-clause-refused c =
    handed_on (Decodes (view c.args.reader.now.value)) c.from_residual.result c.in_err-parts.field-0.0 c.from_residual.ensures.1
    (λ refusal m decoded. c.in_err-parts.ensures.refused refusal m decoded.0.written.0)

-- parts that have a fault, or look for a pattern
pub returns-in-Err-clause-refused : goal.returns-in-Err-clause-refused
returns-in-Err-clause-refused c refusal m decoded =
    let parts : MatcherParts = c.in_ok-parts.parts in
    let same : m ≡ parts = one_three (view c.args.reader.now.value) m parts decoded.0.written.0 c.in_ok-parts.ensures.decoded in
    false≢true (c.in-Err.ensures.made (subst (λ (n : MatcherParts). IsTrue (compares_texts n)) same decoded.1)
    (subst (λ (n : MatcherParts). matcher_fault n ≡ None) same decoded.0.sound.faultless))
