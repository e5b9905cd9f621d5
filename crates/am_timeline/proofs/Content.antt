-- Escaped texts as content of elements.
use Rattle.std.proofs.Common.{◌≡◌, ◌≢◌, ◌∙◌, ◌≤◌, ◌+◌, ◌/◌, ℕ, Bool, true, false, cond, List, [], ◌∷◌, ◌++◌, ap, sym, refl, arith, drop, take, ◌==◌, append_assoc, if◌then◌else◌}
use Rattle.std.proofs.lemmas.Bool.Decides.{nat_tests}
use Rattle.std.proofs.lemmas.List.{append-nil}
use Rattle.std.specs.Char.{encode_utf8}
use Rattle.std.specs.List.{flat_map}
use Rattle.std.specs.Prelude.{nat_lt, codes}
use Rattle.std.specs.Str.{chars}
use Rattle.am_timeline.specs.Escaped.{CutIsContent, EscapedIsContent, char_escaped, escaped, is_content, is_unfit, shortened}
use lib.Utf8.{next}

apart : (a b : ℕ) → a ≢ b → (a == b) ≡ false
apart a b differ = grind (arith, nat_tests)

-- behind a byte that is allowed anywhere it goes on
allowed : (b : ℕ) (bytes : List ℕ) → (b == 38) ≡ false → (b == 60) ≡ false → (b == 62) ≡ false → (b == 34) ≡ false → (b == 39) ≡ false
    → is_content (b ∷ bytes) ≡ is_content bytes
allowed b bytes e1 e2 e3 e4 e5 = rw (e1, e2, e3, e4, e5)

-- as behind one of a character beyond ASCII
high : (b : ℕ) (bytes : List ℕ) → 128 ≤ b → is_content (b ∷ bytes) ≡ is_content bytes
high b bytes above =
    allowed b bytes (apart b 38 (omega arith)) (apart b 60 (omega arith)) (apart b 62 (omega arith)) (apart b 34 (omega arith))
    (apart b 39 (omega arith))

high2 : (a b : ℕ) (bytes : List ℕ) → 128 ≤ a → 128 ≤ b → is_content (a ∷ b ∷ bytes) ≡ is_content bytes
high2 a b bytes p q = high a (b ∷ bytes) p ∙ high b bytes q

high3 : (a b d : ℕ) (bytes : List ℕ) → 128 ≤ a → 128 ≤ b → 128 ≤ d → is_content (a ∷ b ∷ d ∷ bytes) ≡ is_content bytes
high3 a b d bytes p q r = high a (b ∷ d ∷ bytes) p ∙ high2 b d bytes q r

-- and behind a character that isn't escaped
plain : (c : ℕ) (rest : List ℕ) → (c == 38) ≡ false → (c == 60) ≡ false → (c == 62) ≡ false → (c == 34) ≡ false → (c == 39) ≡ false
    → is_content (encode_utf8 c ++ rest) ≡ is_content rest
unfolding encode_utf8
plain c rest e1 e2 e3 e4 e5 = by (nat_lt c 128) (nat_lt c 2048) (nat_lt c 65536)
  where
    by : (x y z : Bool) → is_content (cond x (c ∷ []) (cond y ((192 + c / 64) ∷ next c ∷ [])
        (cond z ((224 + c / 4096) ∷ next (c / 64) ∷ next c ∷ []) ((240 + c / 262144) ∷ next (c / 4096) ∷ next (c / 64) ∷ next c ∷ []))) ++ rest) ≡ is_content rest
    by true y z = allowed c rest e1 e2 e3 e4 e5
    by false true z = high2 (192 + c / 64) (next c) rest (omega arith) (omega arith)
    by false false true = high3 (224 + c / 4096) (next (c / 64)) (next c) rest (omega arith) (omega arith) (omega arith)
    by false false false =
        high (240 + c / 262144) (next (c / 4096) ∷ next (c / 64) ∷ next c ∷ rest) (omega arith)
        ∙ high3 (next (c / 4096)) (next (c / 64)) (next c) rest (omega arith) (omega arith) (omega arith)

-- behind an escaped character it goes on
past : (c : ℕ) (rest : List ℕ) → is_content (char_escaped c ++ rest) ≡ is_content rest
past c rest = by (c == 60) refl (c == 62) refl (c == 38) refl (c == 34) refl (c == 39) refl (is_unfit c)
  where
    by : (lt : Bool) → (c == 60) ≡ lt → (gt : Bool) → (c == 62) ≡ gt → (amp : Bool) → (c == 38) ≡ amp → (quot : Bool) → (c == 34) ≡ quot
        → (tick : Bool) → (c == 39) ≡ tick → (unfit : Bool)
        → is_content ((if lt then codes "&lt;" else (if gt then codes "&gt;" else (if amp then codes "&amp;"
        else (if quot then codes "&quot;" else (if tick then codes "&#39;" else (if unfit then encode_utf8 65533 else encode_utf8 c)))))) ++ rest) ≡ is_content rest
    by true _ _ _ _ _ _ _ _ _ _ = refl
    by false _ true _ _ _ _ _ _ _ _ = refl
    by false _ false _ true _ _ _ _ _ _ = refl
    by false _ false _ false _ true _ _ _ _ = refl
    by false _ false _ false _ false _ true _ _ = refl
    by false _ false _ false _ false _ false _ true = plain 65533 rest refl refl refl refl refl
    by false e2 false e3 false e1 false e4 false e5 false = plain c rest e1 e2 e3 e4 e5

each : (cs rest : List ℕ) → is_content (flat_map char_escaped cs ++ rest) ≡ is_content rest
each [] rest = refl
each (c ∷ cs) rest =
    ap is_content (append_assoc (char_escaped c) (flat_map char_escaped cs) rest)
    ∙ past c (flat_map char_escaped cs ++ rest)
    ∙ each cs rest

pub escaped_is_content : EscapedIsContent
escaped_is_content text = ap is_content (sym (append-nil (escaped text))) ∙ each (chars text) []

pub cut_is_content : CutIsContent
cut_is_content most text = each (take most (chars text)) (shortened (drop most (chars text))) ∙ end (drop most (chars text))
  where
    end : (cs : List ℕ) → is_content (shortened cs) ≡ true
    end [] = refl
    end (c ∷ cs) = ap is_content (sym (append-nil (encode_utf8 0x2026))) ∙ plain 0x2026 [] refl refl refl refl refl
