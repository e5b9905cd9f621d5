use Rattle.std.proofs.Common.{◌≡◌, ◌∙◌, ℕ, List, None, Some, false, option_map, string_bytes, refl, subst, sym, ap}
use Rattle.std.specs.Str.{IsTrimAscii}
use Rattle.am_json.specs.MatcherText.{IsUnquoted, unescaped}
use Rattle.am_json.proofs.MatcherTexts.{one_trimmed, one_unquoted, value_of_text}
use Rattle.am_json.proofs.matcher_text.parts_of_text.Goals as goal

pub returns-in_default : goal.returns-in_default
returns-in_default c m is = c.in_default.ensures.none refl is.name is.value m.op is.is is.begins

-- the value is in no quotes that end, or has a quote or a comma
pub returns-in_default-without_quotes : goal.returns-in_default-without_quotes
returns-in_default-without_quotes c m is =
    let value = c.in-Some.written.now in
    let at = value_of_text c.args.text.now m is c.in-Some.name.now value c.in-Some.op c.in-Some.ensures.is c.in-Some.ensures.begins c.in-Some.ensures.longest in
    let trimmed : is.written ≡ c.trim_ascii.result.now =
    one_trimmed value is.written c.trim_ascii.result.now (subst (λ (l : List ℕ). IsTrimAscii l is.written) at.2 is.trimmed) c.trim_ascii.ensures.value in
    c.in_default-without_quotes.ensures is.inner (subst (λ (l : List ℕ). IsUnquoted l is.inner) trimmed is.unquoted)

-- it has a lone quote, or ends with a backslash
pub returns-in_default-2 : goal.returns-in_default-2
returns-in_default-2 c m is =
    let value = c.in-Some.written.now in
    let inner = c.in-Some-without_quotes.inner.now in
    let at = value_of_text c.args.text.now m is c.in-Some.name.now value c.in-Some.op c.in-Some.ensures.is c.in-Some.ensures.begins c.in-Some.ensures.longest in
    let trimmed : is.written ≡ c.trim_ascii.result.now =
    one_trimmed value is.written c.trim_ascii.result.now (subst (λ (l : List ℕ). IsTrimAscii l is.written) at.2 is.trimmed) c.trim_ascii.ensures.value in
    let same : is.inner ≡ inner =
    one_unquoted c.trim_ascii.result.now is.inner inner (subst (λ (l : List ℕ). IsUnquoted l is.inner) trimmed is.unquoted) c.in-Some-without_quotes.ensures in
    let none : unescaped false inner ≡ None = sym c.in_ok-value.ensures ∙ ap (option_map string_bytes) c.in_default-2.is in
    let some : unescaped false inner ≡ Some m.value = ap (unescaped false) (sym same) ∙ is.holds in
    absurd (cc (none, some))
