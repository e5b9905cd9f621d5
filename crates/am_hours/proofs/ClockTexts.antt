-- Times of day as texts.
use Rattle.std.proofs.Common.{◌≡◌, ℕ, ◌+◌, ◌*◌, cond, true, false, ltb, List, [], ◌∷◌, length, get_or, take, drop, Option, Some, None, codes, refl, sym, ap, ◌∙◌, arith}
use Rattle.std.specs.Prelude.{◌&&◌, ◌==◌, bytes_eq}
use Rattle.std.proofs.lemmas.Bool.{and_from, cond-false, cond-true, eq-eqb}
use Rattle.am_hours.specs.Reading.{digits_in, is_colon, minute_at, minute_in}

-- the two bytes before the third of five, and the two behind it
five : (text : List ℕ) → length text ≡ 5
    → (take 2 text ≡ get_or text 0 0 ∷ get_or text 1 0 ∷ []) × (drop 3 text ≡ get_or text 3 0 ∷ get_or text 4 0 ∷ [])
five [] l = absurd (omega arith)
five (a ∷ []) l = absurd (omega arith)
five (a ∷ b ∷ []) l = absurd (omega arith)
five (a ∷ b ∷ c ∷ []) l = absurd (omega arith)
five (a ∷ b ∷ c ∷ d ∷ []) l = absurd (omega arith)
five (a ∷ b ∷ c ∷ d ∷ e ∷ []) l = (refl, refl)
five (a ∷ b ∷ c ∷ d ∷ e ∷ f ∷ more) l = absurd (omega arith)

-- a text of the form HH:MM, of numbers that its digits write
pub minute_in-clock : (text : List ℕ) (h m : ℕ) → bytes_eq text (codes "24:00") ≡ false → length text ≡ 5 → get_or text 2 0 ≡ 58
    → Some h ≡ digits_in (get_or text 0 0 ∷ get_or text 1 0 ∷ []) → Some m ≡ digits_in (get_or text 3 0 ∷ get_or text 4 0 ∷ [])
    → cond (ltb h 24 && ltb m 60) (Some (h * 60 + m)) None ≡ minute_in text
minute_in-clock text h m n l c eh em =
    let parts = five text l in
    let form : ((length text == 5) && is_colon (get_or text 2 0)) ≡ true =
    and_from (length text == 5) (is_colon (get_or text 2 0)) (eq-eqb (length text) 5 l) (eq-eqb (get_or text 2 0) 58 c) in
    let hours : Some h ≡ digits_in (take 2 text) = eh ∙ ap digits_in (sym parts.0) in
    let minutes : Some m ≡ digits_in (drop 3 text) = em ∙ ap digits_in (sym parts.1) in
    ap (λ (o : Option ℕ). minute_at o (Some m)) hours ∙ ap (λ (o : Option ℕ). minute_at (digits_in (take 2 text)) o) minutes
    ∙ sym (cond-true ((length text == 5) && is_colon (get_or text 2 0)) (minute_at (digits_in (take 2 text)) (digits_in (drop 3 text))) None form)
    ∙ sym (cond-false (bytes_eq text (codes "24:00")) (Some 1440) (cond ((length text == 5) && is_colon (get_or text 2 0))
    (minute_at (digits_in (take 2 text)) (digits_in (drop 3 text))) None) n)
