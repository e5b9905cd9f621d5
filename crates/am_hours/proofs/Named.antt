-- The index of a text among names.
use Rattle.std.proofs.Common.{◌≡◌, ℕ, ◌<◌, Bool, true, false, ltb, List, [], length, get_or, map, Some, None, sym, ap, ◌∙◌, arith}
use Rattle.std.specs.Char.{to_ascii_lowercase}
use Rattle.std.specs.List.{position_or_len}
use Rattle.std.specs.Str.{str_eq_ignore_ascii_case}
use Rattle.std.proofs.lemmas.Bool.{both_ways, cond-false, cond-true, false_from_ne_true, le-ltb, lt-ltb}
use Rattle.std.proofs.lemmas.List.Sums.{position_or_len_is}
use Rattle.std.proofs.lemmas.Slice.Eq.{bytes_eq-Decides}
use Rattle.am_hours.specs.Reading.{index_among}

-- the same letters in either case
pub same_letters : (a b : List ℕ) → map to_ascii_lowercase a ≡ map to_ascii_lowercase b → str_eq_ignore_ascii_case a b ≡ true
same_letters a b = (bytes_eq-Decides (map to_ascii_lowercase a) (map to_ascii_lowercase b)).1

-- other letters, by a test that says so
pub other_letters : (a b : List ℕ) (test : Bool) → test ≡ false → (map to_ascii_lowercase a ≡ map to_ascii_lowercase b → test ≡ true)
    → str_eq_ignore_ascii_case a b ≡ false
other_letters a b test f h =
    false_from_ne_true (str_eq_ignore_ascii_case a b)
    (λ t. both_ways test f (h ((bytes_eq-Decides (map to_ascii_lowercase a) (map to_ascii_lowercase b)).0 t)))

-- none of the first names is the text's
abbrev pub IsNoneBelow : List (List ℕ) → List ℕ → ℕ → Type 0
IsNoneBelow names text n = (k : ℕ) → k < n → str_eq_ignore_ascii_case text (get_or names k []) ≡ false

pub named_none : (names : List (List ℕ)) (text : List ℕ) (n : ℕ) → n ≡ length names → IsNoneBelow names text n → None ≡ index_among names text
named_none names text n e h =
    let test = str_eq_ignore_ascii_case text in
    let at : position_or_len test names ≡ n =
    position_or_len_is test names n [] (omega arith) h (λ l. absurd (omega arith)) in
    sym (cond-false (ltb (position_or_len test names) (length names)) (Some (position_or_len test names)) None
    (le-ltb (position_or_len test names) (length names) (omega arith)))

pub named_some : (names : List (List ℕ)) (text : List ℕ) (n : ℕ) → n < length names → IsNoneBelow names text n
    → str_eq_ignore_ascii_case text (get_or names n []) ≡ true → Some n ≡ index_among names text
named_some names text n l h e =
    let test = str_eq_ignore_ascii_case text in
    let at : position_or_len test names ≡ n = position_or_len_is test names n [] (omega arith) h (λ _. e) in
    ap Some (sym at) ∙ sym (cond-true (ltb (position_or_len test names) (length names)) (Some (position_or_len test names)) None
    (lt-ltb (position_or_len test names) (length names) (omega arith)))
