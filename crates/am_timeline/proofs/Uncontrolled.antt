-- What is written of a JSON text from one of its characters on.
use Rattle.std.proofs.Common.{◌≡◌, ℕ, List, [], ◌∷◌, ◌++◌, length, ap, arith}
use Rattle.std.specs.Char.{encode_utf8}
use Rattle.std.specs.List.{flat_map}
use Rattle.std.specs.Str.{IsUtf8}
use Rattle.std.proofs.lemmas.Str.{chars-nil, chars_past_char}
use Rattle.am_timeline.specs.Json.{char_uncontrolled, uncontrolled}

-- nothing is written of no text
pub uncontrolled-end : (bs : List ℕ) → length bs ≡ 0 → uncontrolled bs ≡ []
unfolding uncontrolled
uncontrolled-end [] e = ap (λ cs. flat_map char_uncontrolled cs) chars-nil
uncontrolled-end (b ∷ bs) e = absurd (omega (arith, e))

-- the first character is written, and then the others
pub uncontrolled-past : (bs rest : List ℕ) (c : ℕ) → IsUtf8 bs → bs ≡ encode_utf8 c ++ rest
    → uncontrolled bs ≡ char_uncontrolled c ++ uncontrolled rest
unfolding uncontrolled
uncontrolled-past bs rest c is_text e = ap (λ cs. flat_map char_uncontrolled cs) (chars_past_char bs rest c is_text e)
