-- Matchers that are made of written parts: one that compares texts has their value.
use Rattle.std.proofs.Common.{◌≡◌, ◌∙◌, ◌||◌, ℕ, Bool, true, false, List, Result, Ok, Err, ap, refl, sym, subst}
use Rattle.std.proofs.lemmas.Bool.{false≢true}
use Rattle.std.specs.Prelude.{IfErr}
use Rattle.am_alerts.specs.Matcher.{compares_texts, takes_text}
use Rattle.am_alerts.specs.Plain.{is_plain_or_bar, is_plain_pattern}
use Rattle.am_alerts.specs.declared.matcher.MatcherParts.{MatcherParts}
use Rattle.am_json.specs.Translated.{IsTranslated, IsTranslatedFrom, IsValueIf}
use Rattle.am_patterns.proofs.Lacking.{lacking_simple}
use Rattle.am_patterns.specs.Simple.{is_simple}
use Rattle.am_patterns.specs.Translation.{IsTranslation, IsTranslationIf}

-- texts with bars between them are read by both syntaxes in the same way
pub plain_simple : (p : List ℕ) → is_plain_pattern p ≡ true → is_simple p ≡ true
plain_simple p plain = lacking_simple is_plain_or_bar (record {
  backslash = refl;
  bracket = refl;
  brace = refl;
  star = refl;
  plus = refl;
  question = refl;
  caret = refl;
  dollar = refl;
  opening = refl;
  closing = refl;
}) p plain

-- ---- what is made of written parts

-- a value that is simple is the pattern
simple_value : (b : Bool) (p value : List ℕ) → IsTranslationIf b p value → is_simple value ≡ true → (b ≡ true) × (value ≡ p)
simple_value true p value is simple = (refl, is)
simple_value false p value is simple = absurd (false≢true (sym is.0 ∙ simple))

-- the value of a matcher that compares texts is the text
text_value : (t : Bool) (p value : List ℕ) → IsValueIf t p value → (t || is_plain_pattern value) ≡ true → ((t || is_simple p) ≡ true) × (value ≡ p)
text_value true p value is compares = (refl, is)
text_value false p value is compares = simple_value (is_simple p) p value is (plain_simple value compares)

-- a matcher that compares texts has the parts that it is made of
pub compares_written : (w m : MatcherParts) → IsTranslated w m → compares_texts m ≡ true → ((takes_text w.op || is_simple w.value) ≡ true) × (m ≡ w)
compares_written w m is compares =
    let of_op : (takes_text w.op || is_plain_pattern m.value) ≡ true = ap (λ op. takes_text op || is_plain_pattern m.value) (sym is.op) ∙ compares in
    let text = text_value (takes_text w.op) w.value m.value is.value of_op in
    (text.0, λ i. record { name = is.name i; op = is.op i; value = text.1 i })

-- what parts become whose value stays
unchanged_value : (t s : Bool) (p value : List ℕ) → is_simple p ≡ s → IsValueIf t p value → (t || s) ≡ true → value ≡ p
unchanged_value true s p value simple is holds = is
unchanged_value false true p value simple is holds = subst (λ (b : Bool). IsTranslationIf b p value) simple is
unchanged_value false false p value simple is holds = absurd (false≢true holds)

one_made : (w m n : MatcherParts) → (takes_text w.op || is_simple w.value) ≡ true → m ≡ w → IsTranslated w n → m ≡ n
one_made w m n holds same is =
    let text = unchanged_value (takes_text w.op) (is_simple w.value) w.value n.value refl is.value holds in
    same ∙ (λ i. record { name = sym is.name i; op = sym is.op i; value = sym text i })

-- one matcher at most that compares texts is made of parts that are written so
pub one_translated : (IsWritten : MatcherParts → Type 0) → ((s t : MatcherParts) → IsWritten s → IsWritten t → s ≡ t) → (m n : MatcherParts)
    → compares_texts m ≡ true → IsTranslatedFrom IsWritten m → IsTranslatedFrom IsWritten n → m ≡ n
one_translated IsWritten one m n compares is also =
    let own = compares_written is.written m is.translated compares in
    let same : also.written ≡ is.written = one also.written is.written also.is is.is in
    one_made is.written m n own.0 own.1 (subst (λ (w : MatcherParts). IsTranslated w n) same also.translated)

-- ---- what is made

itself_if : (t : Bool) (p : List ℕ) → t ≡ true → IsValueIf t p p
itself_if true p takes = refl
itself_if false p takes = absurd (false≢true takes)

-- parts with a text are made of themselves
pub itself : (w : MatcherParts) → takes_text w.op ≡ true → IsTranslated w w
itself w takes = record { name = refl; op = refl; value = itself_if (takes_text w.op) w.value takes }

simple_if : (t : Bool) (p : List ℕ) → is_simple p ≡ true → IsValueIf t p p
simple_if true p simple = refl
simple_if false p simple = subst (λ (b : Bool). IsTranslationIf b p p) (sym simple) refl

-- and so are those with a simple pattern
pub itself_simple : (w : MatcherParts) → is_simple w.value ≡ true → IsTranslated w w
itself_simple w simple = record { name = refl; op = refl; value = simple_if (takes_text w.op) w.value simple }

-- parts with a pattern become those with its translation
pub with_value : (w m : MatcherParts) → takes_text w.op ≡ false → m.name ≡ w.name → m.op ≡ w.op → IsTranslation w.value m.value → IsTranslated w m
with_value w m takes name op value =
    record { name = name; op = op; value = subst (λ (t : Bool). IsValueIf t w.value m.value) (sym takes) value }

-- what doesn't take a text, and stays, is simple
pub or_simple : (t s : Bool) → t ≡ false → (t || s) ≡ true → s ≡ true
or_simple true s takes holds = absurd (false≢true (sym takes))
or_simple false s takes holds = holds

pub err_always : {T E : Type 0} (result : Result T E) (P : Type 0) → P → IfErr result (λ _. P)
err_always (Ok x) P holds = tt
err_always (Err f) P holds = holds
