-- Escaped: texts as content of XML and HTML elements.
use Rattle.std.specs.Prelude.{◌≡◌, ℕ, Bool, true, not, ◌&&◌, ◌||◌, ◌==◌, nat_lt, nat_le, if◌then◌else◌}
use Rattle.std.specs.Prelude.{List, [], ◌∷◌, ◌++◌, drop, take, codes}
use Rattle.std.specs.Char.{encode_utf8}
use Rattle.std.specs.List.{flat_map, list_any, starts_with}
use Rattle.std.specs.Str.{chars}

-- whether a character is a control character except a line feed, or one that XML can't have: below U+000A, from U+000B to U+001F,
-- from U+007F to U+009F, U+FFFE or U+FFFF
abbrev pub is_unfit : ℕ → Bool
is_unfit c = nat_lt c 10 || (nat_le 11 c && nat_lt c 32) || (nat_le 127 c && nat_lt c 160) || c == 65534 || c == 65535

-- a character: `<`, `>`, `&` and quotes as entities, and U+FFFD in place of an unfit one
abbrev pub char_escaped : ℕ → List ℕ
char_escaped c =
    if c == 60 then codes "&lt;"
    else (if c == 62 then codes "&gt;"
    else (if c == 38 then codes "&amp;"
    else (if c == 34 then codes "&quot;"
    else (if c == 39 then codes "&#39;"
    else (if is_unfit c then encode_utf8 65533 else encode_utf8 c)))))

-- a text: each of its characters
abbrev pub escaped : List ℕ → List ℕ
escaped text = flat_map char_escaped (chars text)

-- `…` in place of characters, if there are any
abbrev pub shortened : List ℕ → List ℕ
shortened [] = []
shortened (c ∷ cs) = encode_utf8 0x2026

-- at most `most` characters of a text, and `…` if it has more
abbrev pub cut_after : ℕ → List ℕ → List ℕ
cut_after most cs = flat_map char_escaped (take most cs) ++ shortened (drop most cs)

abbrev pub escaped_up_to : ℕ → List ℕ → List ℕ
escaped_up_to most text = cut_after most (chars text)

-- whether bytes start with an entity of one of those characters
abbrev pub starts_with_entity : List ℕ → Bool
starts_with_entity bytes =
    list_any (starts_with (λ a b. a == b) bytes) (codes "&lt;" ∷ codes "&gt;" ∷ codes "&amp;" ∷ codes "&quot;" ∷ codes "&#39;" ∷ [])

-- whether bytes have no `<`, `>` or quote, and each `&` in them starts an entity
abbrev pub is_content : List ℕ → Bool
is_content [] = true
is_content (b ∷ bytes) =
    (if b == 38 then starts_with_entity (b ∷ bytes) else not (b == 60 || b == 62 || b == 34 || b == 39)) && is_content bytes

-- no escaped text has the end or the start of an element or of an attribute's value, whole or cut
abbrev pub EscapedIsContent : Type 0
EscapedIsContent = (text : List ℕ) → is_content (escaped text) ≡ true

abbrev pub CutIsContent : Type 0
CutIsContent = (most : ℕ) (text : List ℕ) → is_content (escaped_up_to most text) ≡ true
