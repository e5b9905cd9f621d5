-- What is shown of a text from one of its characters on.
use Rattle.std.proofs.Common.{◌≡◌, ℕ, List, [], ◌∷◌, ◌++◌, length, ap, arith}
use Rattle.std.specs.Char.{encode_utf8}
use Rattle.std.specs.List.{flat_map}
use Rattle.std.specs.Str.{IsUtf8}
use Rattle.std.proofs.lemmas.Str.{chars-nil, chars_past_char}
use Rattle.am_timeline.specs.Shown.{char_shown, text_shown}

-- nothing is shown of no text
pub text_shown-end : (bs : List ℕ) → length bs ≡ 0 → text_shown bs ≡ []
text_shown-end [] e = ap (λ cs. flat_map char_shown cs) chars-nil
text_shown-end (b ∷ bs) e = absurd (omega (arith, e))

-- the first character is shown, and then the others
pub text_shown-past : (bs rest : List ℕ) (c : ℕ) → IsUtf8 bs → bs ≡ encode_utf8 c ++ rest → text_shown bs ≡ char_shown c ++ text_shown rest
text_shown-past bs rest c is_text e = ap (λ cs. flat_map char_shown cs) (chars_past_char bs rest c is_text e)
