-- What is escaped of a text from one of its characters on.
use Rattle.std.proofs.Common.{◌≡◌, ◌∙◌, ℕ, zero, suc, List, [], ◌∷◌, ◌++◌, drop, length, take, ap, append_assoc, arith}
use Rattle.std.specs.Char.{encode_utf8}
use Rattle.std.specs.List.{flat_map}
use Rattle.std.specs.Str.{IsUtf8, chars}
use Rattle.std.proofs.lemmas.Str.{chars-nil, chars_past_char}
use Rattle.am_timeline.specs.Escaped.{char_escaped, cut_after, escaped, escaped_up_to, shortened}

-- no text is escaped as none
pub escaped-end : (bs : List ℕ) → length bs ≡ 0 → escaped bs ≡ []
escaped-end [] e = ap (λ cs. flat_map char_escaped cs) chars-nil
escaped-end (b ∷ bs) e = absurd (omega (arith, e))

-- the first character is escaped, and then the others
pub escaped-past : (bs rest : List ℕ) (c : ℕ) → IsUtf8 bs → bs ≡ encode_utf8 c ++ rest → escaped bs ≡ char_escaped c ++ escaped rest
escaped-past bs rest c is_text e = ap (λ cs. flat_map char_escaped cs) (chars_past_char bs rest c is_text e)

-- no text is cut nowhere
pub cut-end : (bs : List ℕ) (most : ℕ) → length bs ≡ 0 → escaped_up_to most bs ≡ []
cut-end [] zero e = ap (cut_after zero) chars-nil
cut-end [] (suc most) e = ap (cut_after (suc most)) chars-nil
cut-end (b ∷ bs) most e = absurd (omega (arith, e))

-- before the first character
pub cut-here : (bs rest : List ℕ) (c : ℕ) → IsUtf8 bs → bs ≡ encode_utf8 c ++ rest → escaped_up_to 0 bs ≡ encode_utf8 0x2026
cut-here bs rest c is_text e = ap (cut_after 0) (chars_past_char bs rest c is_text e)

-- behind the first character
pub cut-past : (bs rest : List ℕ) (c most : ℕ) → IsUtf8 bs → bs ≡ encode_utf8 c ++ rest
    → escaped_up_to (suc most) bs ≡ char_escaped c ++ escaped_up_to most rest
cut-past bs rest c most is_text e =
    ap (cut_after (suc most)) (chars_past_char bs rest c is_text e)
    ∙ append_assoc (char_escaped c) (flat_map char_escaped (take most (chars rest))) (shortened (drop most (chars rest)))
