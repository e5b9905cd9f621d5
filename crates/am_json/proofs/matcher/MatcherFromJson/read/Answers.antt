use Rattle.std.proofs.Common.{◌≡◌, subst, sym}
use Rattle.std.specs.Prelude.{IfErr, IfOk, IsTrue}
use Rattle.serde_json.specs.Data.{Data}
use Rattle.serde_json.specs.View.{view}
use Rattle.am_alerts.specs.Matcher.{compares_texts}
use Rattle.am_alerts.specs.declared.matcher.MatcherParts.{MatcherParts}
use Rattle.am_json.specs.Configured.{DecodesToMatcher}
use Rattle.am_json.specs.Read.{Excludes}
use Rattle.am_json.specs.declared.reader.Mode.{Mode}
use Rattle.am_json.specs.declared.reader.Mode.TheVariants.{Lenient, Strict}
use Rattle.am_json.proofs.matcher.MatcherFromJson.read.Goals as goal

-- what is never refused
abbrev Decodes : Mode → Data → MatcherParts → Type 0
Decodes mode value m = DecodesToMatcher mode value m × IsTrue (compares_texts m)

pub returns-in-Lenient-clause-decoded : goal.returns-in-Lenient-clause-decoded
returns-in-Lenient-clause-decoded c =
    let mode : c.args.reader.now.mode ≡ Lenient = cc in
    subst (λ (d : Mode). IfOk c.read_lenient.result (DecodesToMatcher d (view c.args.reader.now.value))) (sym mode) c.read_lenient.ensures.decoded

pub returns-in-Lenient-clause-refused : goal.returns-in-Lenient-clause-refused
returns-in-Lenient-clause-refused c =
    let mode : c.args.reader.now.mode ≡ Lenient = cc in
    subst (λ (d : Mode). IfErr c.read_lenient.result (Excludes (Decodes d (view c.args.reader.now.value)))) (sym mode) c.read_lenient.ensures.refused

pub returns-in-Strict-clause-decoded : goal.returns-in-Strict-clause-decoded
returns-in-Strict-clause-decoded c =
    let mode : c.args.reader.now.mode ≡ Strict = cc in
    subst (λ (d : Mode). IfOk c.read_strict.result (DecodesToMatcher d (view c.args.reader.now.value))) (sym mode) c.read_strict.ensures.decoded

pub returns-in-Strict-clause-refused : goal.returns-in-Strict-clause-refused
returns-in-Strict-clause-refused c =
    let mode : c.args.reader.now.mode ≡ Strict = cc in
    subst (λ (d : Mode). IfErr c.read_strict.result (Excludes (Decodes d (view c.args.reader.now.value)))) (sym mode) c.read_strict.ensures.refused
