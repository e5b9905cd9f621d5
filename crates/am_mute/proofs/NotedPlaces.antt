-- The places of silences, by their ids.
use Rattle.std.proofs.Common.{◌≡◌, ◌∙◌, ℕ, ◌+◌, ◌==◌, suc, Bool, true, false, eqb, cond, List, [], ◌∷◌, ◌++◌, length, refl, sym, ap, arith}
use Rattle.std.specs.Prelude.{Option, Some, None, Result, Ok, Err, OnOk, is_err, is_some}
use Rattle.std.specs.List.{position, position_from}
use Rattle.std.specs.Option.{option_or}
use Rattle.std.proofs.lemmas.Bool.{eqb-true, eqb-false, eq-eqb, ne_eqb}
use Rattle.std.proofs.lemmas.Iterator.Adapters.{position_from-zero}
use Rattle.am_mute.specs.Silence.{SilenceData}

at_first : (first : ℕ) → first ≡ first + 0
at_first first = omega arith

from_nought : (n : ℕ) → 0 + n ≡ n
from_nought n = omega arith

one_on : (first n : ℕ) → first + 1 + n ≡ first + suc n
one_on first n = omega arith

from-push : (p : SilenceData → Bool) (first : ℕ) (silences : List SilenceData) (s : SilenceData)
    → position_from p first (silences ++ s ∷ []) ≡ option_or (position_from p first silences) (cond (p s) (Some (first + length silences)) None)
from-push p first [] s = ap (λ n. cond (p s) (Some n) None) (at_first first)
from-push p first (x ∷ xs) s =
    elim (p x) as (λ b. cond b (Some first) (position_from p (first + 1) (xs ++ s ∷ []))
    ≡ option_or (cond b (Some first) (position_from p (first + 1) xs)) (cond (p s) (Some (first + suc (length xs))) None)) [
      | true ↦ refl
      | false ↦ from-push p (first + 1) xs s
          ∙ ap (λ n. option_or (position_from p (first + 1) xs) (cond (p s) (Some n) None)) (one_on first (length xs))
    ]

-- where the first silence that passes is, if there is one silence more
pub position-push : (p : SilenceData → Bool) (silences : List SilenceData) (s : SilenceData)
    → position p (silences ++ s ∷ []) ≡ option_or (position p silences) (cond (p s) (Some (length silences)) None)
position-push p silences s =
    position_from-zero p (silences ++ s ∷ [])
    ∙ from-push p 0 silences s
    ∙ ap (λ n. option_or (position_from p 0 silences) (cond (p s) (Some n) None)) (from_nought (length silences))
    ∙ sym (ap (λ o. option_or o (cond (p s) (Some (length silences)) None)) (position_from-zero p silences))

-- what a call ensures where it succeeds
pub ok-part : {X E : Type 0} (r : Result X E) {P : Type 0} → is_err r ≡ false → OnOk r P → P
ok-part (Ok x) succeeds holds = holds
ok-part (Err e) succeeds holds = absurd (cc succeeds)

-- nothing is there
pub none-there : (o : Option ℕ) → is_some o ≡ false → o ≡ None
none-there None none = refl
none-there (Some x) none = absurd (cc none)

-- a map has the places of these silences
abbrev pub AreTheirs : (ℕ → Option ℕ) → List SilenceData → Type 0
AreTheirs places silences = (id : ℕ) → places id ≡ position (λ x. id == x.id) silences

turned : (m n : ℕ) → eqb m n ≡ eqb n m
turned m n =
    elim (eqb m n) as (λ b. eqb m n ≡ b → b ≡ eqb n m) [
      | true ↦ λ e. sym (eq-eqb n m (sym (eqb-true m n e)))
      | false ↦ λ e. sym (ne_eqb n m (λ same. eqb-false m n e (sym same)))
    ] refl

absent : (n id own : ℕ) (o : Option ℕ) → (eqb own id ≡ true → o ≡ None) → cond (eqb own id) (Some n) o ≡ option_or o (cond (eqb id own) (Some n) None)
absent n id own None none = ap (λ b. cond b (Some n) None) (turned own id)
absent n id own (Some i) none =
    elim (eqb own id) as (λ b. eqb own id ≡ b → cond b (Some n) (Some i) ≡ Some i) [
      | true ↦ λ e. absurd (cc (none e))
      | false ↦ λ e. refl
    ] refl

-- the id of one more silence is noted, if it wasn't there
pub noted-absent : (silences : List SilenceData) (s : SilenceData) (was now : ℕ → Option ℕ) → AreTheirs was silences → was s.id ≡ None
    → ((id : ℕ) → now id ≡ cond (eqb s.id id) (Some (length silences)) (was id)) → AreTheirs now (silences ++ s ∷ [])
noted-absent silences s was now theirs none put id =
    put id
    ∙ absent (length silences) id s.id (was id) (λ same. sym (ap was (eqb-true s.id id same)) ∙ none)
    ∙ ap (λ o. option_or o (cond (eqb id s.id) (Some (length silences)) None)) (theirs id)
    ∙ sym (position-push (λ x. id == x.id) silences s)
