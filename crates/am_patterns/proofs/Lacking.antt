-- Patterns that lack all characters with a meaning but bars are simple.
use Rattle.std.proofs.Common.{◌≡◌, ◌∙◌, ◌==◌, ◌||◌, ◌&&◌, ℕ, Bool, true, false, not, List, [], ◌∷◌, Some, ap, refl, sym, if◌then◌else◌}
use Rattle.std.proofs.lemmas.Bool.{and_parts, eqb-true, false≢true}
use Rattle.std.specs.List.{list_all}
use Rattle.am_patterns.specs.Simple.{behind, behind_plain, is_simple, is_simple_from}
use Rattle.am_patterns.specs.declared.simple.Place.{Place}

-- no character passes a test that has a meaning, apart from bars
pub record IsLacking (P : ℕ → Bool) : Type 0 where
  pub backslash : P 0x5C ≡ false
  pub bracket : P 0x5B ≡ false
  pub brace : P 0x7B ≡ false
  pub star : P 0x2A ≡ false
  pub plus : P 0x2B ≡ false
  pub question : P 0x3F ≡ false
  pub caret : P 0x5E ≡ false
  pub dollar : P 0x24 ≡ false
  pub opening : P 0x28 ≡ false
  pub closing : P 0x29 ≡ false

-- a character that passes is none that doesn't
isnt : (P : ℕ → Bool) (k c : ℕ) → P k ≡ false → P c ≡ true → (c == k) ≡ false
isnt P k c none passes = by (c == k) refl
  where
    by : (b : Bool) → (c == k) ≡ b → b ≡ false
    by false is = refl
    by true is = absurd (false≢true (sym none ∙ ap P (sym (eqb-true c k is)) ∙ passes))

-- a place outside groups
abbrev outside : Bool → Place
outside repeatable = record { is_escaped = false; is_repeatable = repeatable; depth = 0 }

-- behind such a character is such a place
one_behind : (P : ℕ → Bool) → IsLacking P → (r : Bool) (c : ℕ) → P c ≡ true → behind (outside r) c ≡ Some (outside (not (c == 0x7C)))
unfolding behind behind_plain
one_behind P lacking r c passes =
    rw (
      isnt P 0x5C c lacking.backslash passes,
      isnt P 0x5B c lacking.bracket passes,
      isnt P 0x7B c lacking.brace passes,
      isnt P 0x2A c lacking.star passes,
      isnt P 0x2B c lacking.plus passes,
      isnt P 0x3F c lacking.question passes,
      isnt P 0x5E c lacking.caret passes,
      isnt P 0x24 c lacking.dollar passes,
      isnt P 0x28 c lacking.opening passes,
      isnt P 0x29 c lacking.closing passes,
    ) (by (c == 0x7C))
  where
    by : (b : Bool) → (if b || false || false then Some (outside false) else Some (outside true)) ≡ Some (outside (not b))
    by true = refl
    by false = refl

simple_from : (P : ℕ → Bool) → IsLacking P → (r : Bool) (p : List ℕ) → list_all P p ≡ true → is_simple_from (Some (outside r)) p ≡ true
simple_from P lacking r [] all = refl
simple_from P lacking r (c ∷ cs) all =
    let parts = and_parts (P c) (list_all P cs) all in
    ap (λ o. is_simple_from o cs) (one_behind P lacking r c parts.0) ∙ simple_from P lacking (not (c == 0x7C)) cs parts.1

pub lacking_simple : (P : ℕ → Bool) → IsLacking P → (p : List ℕ) → list_all P p ≡ true → is_simple p ≡ true
lacking_simple P lacking p all = simple_from P lacking false p all
