use Rattle.std.proofs.Common.{ℕ, List, subst}
use Rattle.std.specs.Prelude.{IsTrue}
use Rattle.std.proofs.lemmas.Result.{IfErr-weaker}
use Rattle.am_alerts.specs.Matcher.{compares_texts}
use Rattle.am_alerts.specs.declared.matcher.MatcherParts.{MatcherParts}
use Rattle.am_json.proofs.MatcherTexts.{one_text}
use Rattle.am_json.specs.Configured.{IsSound}
use Rattle.am_json.specs.MatcherText.{IsMatcherText}
use Rattle.am_json.specs.Translated.{IsTranslated}
use Rattle.am_console.specs.MatcherWords.{IsNoMatcher}
use Rattle.am_console.proofs.matcher_words.matcher_of.Goals as goal

-- a text writes no matcher where none is made of its parts
none_of : (text : List ℕ) (parts : MatcherParts) → IsMatcherText text parts
    → ((m : MatcherParts) → IsTranslated parts m → IsSound m → IsTrue (compares_texts m) → ⊥) → IsNoMatcher text
none_of text parts is refused m written sound compares =
    refused m (subst (λ (w : MatcherParts). IsTranslated w m) (one_text text written.written parts written.is is) written.translated) sound compares

pub returns-in-Ok-Some-clause-refused : goal.returns-in-Ok-Some-clause-refused
returns-in-Ok-Some-clause-refused c =
    IfErr-weaker c.translated_matcher.result _ _
    (λ fault refused _. none_of c.args.text.now c.in-Ok-Some.parts (rw c.in-Ok-Some.field-0-is at c.in-Ok-Some.ensures) refused) c.translated_matcher.ensures.refused

pub returns-in-Ok-None-clause-refused : goal.returns-in-Ok-None-clause-refused
returns-in-Ok-None-clause-refused c _ m written sound compares =
    (rw c.in-Ok-None.field-0-is at c.in-Ok-None.ensures) written.written written.is
