use Rattle.std.proofs.Common.{◌≡◌, subst}
use Rattle.std.specs.Prelude.{IsTrue}
use Rattle.serde_json.specs.Data.{Data}
use Rattle.serde_json.specs.View.{view}
use Rattle.am_alerts.specs.Matcher.{compares_texts, matcher_fault}
use Rattle.am_alerts.specs.declared.matcher.MatcherParts.{MatcherParts}
use Rattle.am_json.specs.Configured.{DecodesToMatcher}
use Rattle.am_json.specs.Translated.{IsTranslated}
use Rattle.am_json.specs.declared.reader.Mode.TheVariants.{Strict}
use Rattle.am_json.proofs.Decoding.{handed_on}
use Rattle.am_json.proofs.Once.{one_written}
use Rattle.am_json.proofs.matcher.read_strict.Goals as goal

-- what is never refused
abbrev Decodes : Data → MatcherParts → Type 0
Decodes value m = DecodesToMatcher Strict value m × IsTrue (compares_texts m)

pub returns-in_err-parts-clause-refused : goal.returns-in_err-parts-clause-refused
returns-in_err-parts-clause-refused c =
    handed_on (Decodes (view c.args.reader.now.value)) c.from_residual.result c.in_err-parts.field-0.0 c.from_residual.ensures.1
    (λ refusal m decoded. c.in_err-parts.ensures.refused refusal decoded.0.written.written decoded.0.written.is)

pub returns-in-Ok-clause-decoded : goal.returns-in-Ok-clause-decoded
returns-in-Ok-clause-decoded c = record {
  written = record { written = c.in_ok-parts.parts; is = c.in_ok-parts.ensures.decoded; translated = c.in-Ok.ensures.value };
  sound = c.in-Ok.ensures.sound;
}

-- parts of which no matcher is made
pub returns-in-Err-clause-refused : goal.returns-in-Err-clause-refused
returns-in-Err-clause-refused c refusal m decoded =
    let parts : MatcherParts = c.in_ok-parts.parts in
    let from = decoded.0.written in
    let same : from.written ≡ parts = one_written (view c.args.reader.now.value) from.written parts from.is c.in_ok-parts.ensures.decoded in
    c.in-Err.ensures.refused m (subst (λ (w : MatcherParts). IsTranslated w m) same from.translated) decoded.0.sound decoded.1
