use Rattle.std.proofs.Common.{◌≡◌, List, MatchOption, Option, Some, ℕ, subst}
use Rattle.std.proofs.lemmas.Result.{IfOk-weaker}
use Rattle.am_alerts.specs.declared.matcher.MatcherParts.{MatcherParts}
use Rattle.am_json.specs.MatcherText.{IsMatcherText}
use Rattle.am_config.proofs.matchers.matcher_of_text.Goals as goal

-- what is read of a text
abbrev Read : List ℕ → Option MatcherParts → Type 0
Read text parts = MatchOption parts ((m : MatcherParts) → IsMatcherText text m → ⊥) (IsMatcherText text)

parts_read : (text : List ℕ) (read is : Option MatcherParts) → read ≡ is → Read text read → Read text is
parts_read text read is same decoded = subst (Read text) same decoded

pub returns-in-Some : goal.returns-in-Some
returns-in-Some c =
    let parts : MatcherParts = c.in-Some.parts in
    let read : IsMatcherText c.args.written.now parts =
    parts_read c.args.written.now c.in_ok-parts_of_text.field-0 (Some parts) c.in-Some.is c.in_ok-parts_of_text.ensures in
    IfOk-weaker c.matcher_of.result _ _ (λ m is. record { written = parts; is = read; translated = is }) c.matcher_of.ensures
