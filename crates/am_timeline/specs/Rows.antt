-- Rows: texts that were computed by hand.
use Rattle.std.specs.Prelude.{◌≡◌, ◌∷◌, [], codes}
use Rattle.am_timeline.specs.Shown.{text_shown}

-- a backslash, an escape character, one of U+0080 to U+009F, and a letter of two bytes
abbrev pub TextsAreShown : Type 0
TextsAreShown =
    (text_shown (97 ∷ 92 ∷ []) ≡ codes "a\\\\") × (text_shown (27 ∷ []) ≡ codes "\\u{1b}")
    × (text_shown (194 ∷ 159 ∷ []) ≡ codes "\\u{9f}") × (text_shown (195 ∷ 164 ∷ []) ≡ 195 ∷ 164 ∷ [])
