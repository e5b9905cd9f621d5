-- Escaped values.
use Rattle.std.proofs.Common.{◌≡◌, ◌≢◌, ℕ, ◌<◌, ◌≤◌, suc, List, [], ◌∷◌, ◌++◌, length, take, get_or, sym, refl, ap, ◌∙◌, subst, arith}
use Rattle.std.specs.Char.{encode_utf8}
use Rattle.std.proofs.lemmas.Bool.Decides.{nat_tests}
use Rattle.std.proofs.lemmas.Grind.{flat_map-append}
use Rattle.std.proofs.lemmas.List.{append-nil, length-take, take-append-le, take-take}
use Rattle.std.proofs.lemmas.Str.{inside_one, IsCharBoundary-from_take}
use Rattle.am_alerts.specs.LabelText.{escape, escaped, BeginsWith}
use Rattle.std.specs.Str.{IsUtf8, IsCharBoundary}

escape-plain : (b : ℕ) → b ≢ 92 → b ≢ 34 → b ≢ 10 → escape b ≡ b ∷ []
escape-plain b x y z = grind (arith, nat_tests)

-- bytes that stay as they are
escaped-plain : (bs : List ℕ) → ((k : ℕ) → k < length bs → escape (get_or bs k 0) ≡ get_or bs k 0 ∷ []) → escaped bs ≡ bs
escaped-plain [] plain = refl
escaped-plain (b ∷ bs) plain = ap (λ e. e ++ escaped bs) (plain 0 (omega arith))
    ∙ ap (λ r. b ∷ r) (escaped-plain bs (λ k within. plain (suc k) (omega arith)))

-- the bytes of a character that stays as it is
pub escaped-encode : (c : ℕ) → c ≢ 92 → c ≢ 34 → c ≢ 10 → escaped (encode_utf8 c) ≡ encode_utf8 c
escaped-encode c x y z =
    escaped-plain (encode_utf8 c) (λ k within.
    escape-plain (get_or (encode_utf8 c) k 0)
    (λ e. x (inside_one c [] (encode_utf8 c) k (sym (append-nil (encode_utf8 c))) within (omega (arith, e)) ∙ e))
    (λ e. y (inside_one c [] (encode_utf8 c) k (sym (append-nil (encode_utf8 c))) within (omega (arith, e)) ∙ e))
    (λ e. z (inside_one c [] (encode_utf8 c) k (sym (append-nil (encode_utf8 c))) within (omega (arith, e)) ∙ e)))

pub escaped-append : (xs ys : List ℕ) → escaped (xs ++ ys) ≡ escaped xs ++ escaped ys
escaped-append xs ys = flat_map-append escape xs ys

-- a text that begins with another can be cut behind it
pub IsCharBoundary-begun : (text start : List ℕ) → IsUtf8 text → IsUtf8 start → BeginsWith text start → IsCharBoundary text (length start)
IsCharBoundary-begun text start is_text is_start begins =
    let long : length start ≤ length text = omega (arith, ap length begins, length-take (length start) text) in
    IsCharBoundary-from_take text (length start) is_text long (subst IsUtf8 (sym begins) is_start)

begun_length : (text start : List ℕ) → BeginsWith text start → length start ≤ length text
begun_length text start begins = omega (arith, ap length begins, length-take (length start) text)

-- what was appended to a text that begins with another
pub BeginsWith-append : (text more start : List ℕ) → BeginsWith text start → BeginsWith (text ++ more) start
BeginsWith-append text more start begins = take-append-le (length start) text more (begun_length text start begins) ∙ begins

-- a text that begins with one that begins with a third
pub BeginsWith-trans : (longer text start : List ℕ) → BeginsWith longer text → BeginsWith text start → BeginsWith longer start
BeginsWith-trans longer text start far near =
    sym (take-take (length start) (length text) longer (begun_length text start near)) ∙ ap (λ r. take (length start) r) far ∙ near
