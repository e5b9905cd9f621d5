use Rattle.std.proofs.Common.{◌≡◌, ℕ, true, List, None, Option, Some, String, refl, string_bytes, subst, sym}
use Rattle.std.specs.Prelude.{IsTrue}
use Rattle.std.specs.declared.alloc.Global.{Global}
use Rattle.am_alerts.specs.declared.matcher.MatcherParts.{MatcherParts}
use Rattle.am_patterns.specs.Simple.{is_simple}
use Rattle.am_patterns.specs.Translation.{IsTranslation, IsValue}
use Rattle.am_json.proofs.Translations.{itself_simple, with_value}
use Rattle.am_json.proofs.translated.with_translation.Goals as goal

none_simple : (o : Option (String Global)) (p : List ℕ) → o ≡ None → IsValue p o → is_simple p ≡ true
none_simple o p none is = subst (IsValue p) none is

some_value : (o : Option (String Global)) (value : String Global) (p : List ℕ) → o ≡ Some value → IsValue p o → IsTranslation p (string_bytes value)
some_value o value p some is = subst (IsValue p) some is

pub returns-in-Ok-None-clause-value : goal.returns-in-Ok-None-clause-value
returns-in-Ok-None-clause-value c =
    let none : c.in-Ok-None.field-0 ≡ None = cc in
    itself_simple c.args.written
    (subst (λ (t : List ℕ). IsTrue (is_simple t)) c.as_str.ensures (none_simple c.in-Ok-None.field-0 c.as_str.result.now none c.in-Ok-None.ensures.value))

pub returns-in-Ok-Some-clause-value : goal.returns-in-Ok-Some-clause-value
returns-in-Ok-Some-clause-value c =
    let w = c.args.written in
    let made : MatcherParts = record { name = w.name; op = w.op; value = c.from.result } in
    let some : c.in-Ok-Some.field-0 ≡ Some c.in-Ok-Some.value = cc in
    with_value w made c.requires refl refl
    (subst (IsTranslation w.value) (sym c.from.ensures) (subst (λ (t : List ℕ). IsTranslation t (string_bytes c.in-Ok-Some.value)) c.as_str.ensures
    (some_value c.in-Ok-Some.field-0 c.in-Ok-Some.value c.as_str.result.now some c.in-Ok-Some.ensures.value)))

pub returns-in-Ok-Some-clause-unchanged : goal.returns-in-Ok-Some-clause-unchanged
returns-in-Ok-Some-clause-unchanged c simple =
    absurd (cc (c.in-Ok-Some.ensures.simple (subst (λ (t : List ℕ). IsTrue (is_simple t)) (sym c.as_str.ensures) simple)))

pub returns-in-Err-NoMemory-clause-unchanged : goal.returns-in-Err-NoMemory-clause-unchanged
returns-in-Err-NoMemory-clause-unchanged c simple =
    absurd (cc (c.in-Err-NoMemory.ensures.simple (subst (λ (t : List ℕ). IsTrue (is_simple t)) (sym c.as_str.ensures) simple)))

pub returns-clause-unchanged : goal.returns-clause-unchanged
returns-clause-unchanged c simple =
    absurd (cc (c.in-Err-Rejected.ensures.simple (subst (λ (t : List ℕ). IsTrue (is_simple t)) (sym c.as_str.ensures) simple)))
