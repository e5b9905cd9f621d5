use Rattle.std.proofs.Common.{◌≡◌, ◌∙◌, ◌==◌, ◌||◌, ◌∷◌, [], List, Bool, Result, IfOk, true, false, ℕ, not, cond, ap, refl, subst, sym}
use Rattle.std.specs.List.{list_any}
use Rattle.serde_json.specs.View.{view}
use Rattle.serde_json.specs.declared.value.Value.{Value}
use Rattle.am_yaml.specs.Spelling.{IsSpelledIn, without_returns}
use Rattle.am_yaml.specs.declared.fault.Stop.{Stop}
use Rattle.am_yaml.proofs.reader.read_lines.Goals as goal

kept : (b rest : Bool) (x : ℕ) (xs ys : List ℕ) → (b || rest) ≡ false → (rest ≡ false → ys ≡ xs) → cond (not b) (x ∷ ys) ys ≡ x ∷ xs
kept false rest x xs ys none same = ap (λ zs. x ∷ zs) (same none)
kept true rest x xs ys none same = cc

-- a text that has no carriage return is one without them
without_none : (xs : List ℕ) → list_any (λ y. y == 13) xs ≡ false → without_returns xs ≡ xs
without_none [] none = refl
without_none (x ∷ xs) none = kept (x == 13) (list_any (λ y. y == 13) xs) x xs (without_returns xs) none (without_none xs)

-- so what is said of the one is said of the other
of_none : (xs bytes : List ℕ) (result : Result Value Stop) → bytes ≡ xs → list_any (λ y. y == 13) bytes ≡ false
    → IfOk result (λ value. IsSpelledIn xs (view value)) → IfOk result (λ value. IsSpelledIn (without_returns xs) (view value))
of_none xs bytes result same none said =
    let whole : without_returns xs ≡ xs = subst (λ ys. without_returns ys ≡ ys) same (without_none bytes none) in
    subst (λ ys. IfOk result (λ value. IsSpelledIn ys (view value))) (sym whole) said

pub returns-clause-spelled : goal.returns-clause-spelled
returns-clause-spelled c =
    let none = sym c.contains.ensures.value ∙ c.if-contains.false in
    of_none c.args.text.now c.as_bytes.result.now c.read_document-2.result c.as_bytes.ensures.value none c.read_document-2.ensures.spelled
