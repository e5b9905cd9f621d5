use Rattle.std.proofs.Common.{◌≡◌, ◌∙◌, None, sym, subst}
use Rattle.std.proofs.lemmas.Bool.{false≢true}
use Rattle.std.specs.Prelude.{IsTrue}
use Rattle.am_alerts.specs.Matcher.{compares_texts, matcher_fault}
use Rattle.am_alerts.specs.declared.matcher.MatcherParts.{MatcherParts}
use Rattle.am_json.proofs.Made.{no_fault}
use Rattle.am_json.proofs.Translations.{compares_written, err_always}
use Rattle.am_json.specs.Configured.{IsSound}
use Rattle.am_json.specs.Translated.{IsTranslated}
use Rattle.am_json.proofs.translated.translated_matcher.Goals as goal

-- what is never refused
abbrev Refuses : MatcherParts → Type 0
Refuses w = (m : MatcherParts) → IsTranslated w m → IsSound m → IsTrue (compares_texts m) → ⊥

pub returns-in_err-parts-clause-refused : goal.returns-in_err-parts-clause-refused
returns-in_err-parts-clause-refused c =
    err_always c.from_residual.result (Refuses c.args.written)
    (λ m is sound compares. absurd (cc (c.in_err-parts.ensures.unchanged (compares_written c.args.written m is compares).0)))

pub returns-in-Ok-clause-value : goal.returns-in-Ok-clause-value
returns-in-Ok-clause-value c = subst (λ (m : MatcherParts). IsTranslated c.args.written m) (sym c.in-Ok.ensures.value) c.in_ok-parts.ensures.value

pub returns-in-Ok-clause-sound : goal.returns-in-Ok-clause-sound
returns-in-Ok-clause-sound c =
    let parts : MatcherParts = c.in_ok-parts.parts in
    let made : c.in-Ok.matcher ≡ parts = c.in-Ok.ensures.value in
    subst IsSound (sym made) (record { faultless = no_fault (matcher_fault parts) c.in-Ok.matcher c.in-Ok.ensures.refused; pattern = c.in-Ok.ensures.pattern })

-- parts that have a fault, or look for a pattern
pub returns-in-Err-clause-refused : goal.returns-in-Err-clause-refused
returns-in-Err-clause-refused c m is sound compares =
    let parts : MatcherParts = c.in_ok-parts.parts in
    let own = compares_written c.args.written m is compares in
    let unchanged : parts ≡ c.args.written = cc (c.in_ok-parts.ensures.unchanged own.0) in
    let same : m ≡ parts = own.1 ∙ sym unchanged in
    false≢true (c.in-Err.ensures.made (subst (λ (n : MatcherParts). IsTrue (compares_texts n)) same compares)
    (subst (λ (n : MatcherParts). matcher_fault n ≡ None) same sound.faultless))
