-- What plain texts with bars between them match: one of the texts, as a whole.
use Rattle.std.proofs.Common.{◌≡◌, ℕ, zero, suc, ◌+◌, ◌<◌, Bool, true, false, cond, ◌||◌, ◌==◌, List, [], ◌∷◌, ◌++◌, map, length, drop}
use Rattle.std.proofs.Common.{get_or, Some, is_some, nat_eq, codes, refl, sym, ap, ◌∙◌, subst, inl, inr, ⊎_elim, arith, append-nil}
use Rattle.std.proofs.Common.{length-drop, le-leb, nat_lt, IsUtf8, IsAscii, chars, Decides}
use Rattle.std.proofs.lemmas.Bool.{false≢true, and_parts, and_from, or_cases, or_left, or_right}
use Rattle.std.proofs.lemmas.Bool.Decides.{nat_tests, Decides-eqb, same_from_decides}
use Rattle.std.proofs.lemmas.List.{nil_from_length}
use Rattle.std.proofs.lemmas.List.Splits.{join_with_byte-slice_split, length-slice_split}
use Rattle.std.proofs.lemmas.Slice.Eq.{slice_eq-Decides}
use Rattle.std.proofs.lemmas.Str.{IsAscii-append, IsUtf8-from_ascii, chars-IsAscii, encodes-IsAscii}
use Rattle.std.specs.List.{list_all, onto_first}
use lib.Pointwise.{pointwise}
use lib.Utf8.{encodes}
use Rattle.regex_hir.proofs.TextLemmas.{has_bytes_at_parts, has_bytes_at_from}
use Rattle.regex_hir.specs.Find.{find_str}
use Rattle.regex_hir.specs.Matches.{Matches}
use Rattle.regex_hir.specs.Meaning.{alt_all}
use Rattle.regex_hir.specs.Re.{Re, literal, look, cat}
use Rattle.regex_hir.specs.declared.look.Look.TheVariants.{Start, End}
use Rattle.regex_syntax.proofs.EscapeLemmas.{literals}
use Rattle.regex_syntax.proofs.LikenessLaws.{alike_of_same}
use Rattle.regex_syntax.proofs.TreeLaws.{◌then◌, same_refl, same_of_eq, cat_cong, alt_cong, cat-empty, alt-fail}
use Rattle.regex_syntax.specs.Grammar.{read}
use Rattle.regex_syntax.specs.Same.{SameTree}
use Rattle.regex_syntax.specs.Verdict.{default_config}
use Rattle.regex.specs.Patterns.{in_ranges}
use Rattle.regex.proofs.ForCallers.{is_match_alike, whole_of_is_match, is_match_of_whole}
use Rattle.am_alerts.specs.Pattern.{anchored, finds, has_match, is_pattern, is_shallow}
use Rattle.am_alerts.specs.Plain.{is_plain, is_plain_or_bar, is_plain_pattern, bar_texts, is_one_of}
use Rattle.am_alerts.proofs.PlainReads.{are_plain, bars, words_tree, whole_tree, names_read, pattern_is_read, whole_depth}

ascii_of : (test : ℕ → Bool) → ((c : ℕ) → test c ≡ true → c < 128) → (xs : List ℕ) → list_all test xs ≡ true → IsAscii xs
ascii_of test low [] h i = omega arith
ascii_of test low (c ∷ xs) h zero = low c (and_parts (test c) _ h).0
ascii_of test low (c ∷ xs) h (suc i) = ascii_of test low xs (and_parts (test c) _ h).1 i

plain_is_ascii : (c : ℕ) → is_plain c ≡ true → c < 128
plain_is_ascii c h = grind (arith, nat_tests)

plain_or_bar_is_ascii : (c : ℕ) → is_plain_or_bar c ≡ true → c < 128
plain_or_bar_is_ascii c h = grind (arith, nat_tests)

low_is_ascii : (c : ℕ) → nat_lt c 128 ≡ true → c < 128
low_is_ascii c h = grind (arith, nat_tests)

anchored_is_ascii : (p : List ℕ) → is_plain_pattern p ≡ true → IsAscii (anchored p)
anchored_is_ascii p h =
    IsAscii-append (codes "^(?:") (p ++ codes ")$") (ascii_of (λ c. nat_lt c 128) low_is_ascii (codes "^(?:") refl)
    (IsAscii-append p (codes ")$") (ascii_of is_plain_or_bar plain_or_bar_is_ascii p h)
    (ascii_of (λ c. nat_lt c 128) low_is_ascii (codes ")$") refl))

-- ---- the texts between the bars are plain

onto_plain : (c : ℕ) (ws : List (List ℕ)) → is_plain c ≡ true → are_plain ws ≡ true → are_plain (onto_first c ws) ≡ true
onto_plain c [] plain all = rw plain refl
onto_plain c (w ∷ ws) plain all =
    let parts = and_parts (list_all is_plain w) (are_plain ws) all in and_from _ _ (and_from _ _ plain parts.0) parts.1

cut_plain : (c : ℕ) (ws : List (List ℕ)) (b : Bool) → (is_plain c || b) ≡ true → are_plain ws ≡ true →
    are_plain (cond b ([] ∷ ws) (onto_first c ws)) ≡ true
cut_plain c ws true h all = all
cut_plain c ws false h all = onto_plain c ws (⊎_elim (λ e. e) (λ e. absurd (false≢true e)) (or_cases (is_plain c) false h)) all

texts_are_plain : (p : List ℕ) → is_plain_pattern p ≡ true → are_plain (bar_texts p) ≡ true
texts_are_plain [] h = refl
texts_are_plain (c ∷ p) h =
    let parts = and_parts (is_plain_or_bar c) (is_plain_pattern p) h in
    cut_plain c (bar_texts p) (c == 0x7C) parts.0 (texts_are_plain p parts.1)

-- ---- the tree that is read matches as the texts do

words_same : (ws : List (List ℕ)) → are_plain ws ≡ true → SameTree (words_tree ws).value (alt_all (map literal ws))
words_same [] h = same_refl _
words_same (w ∷ ws) h =
    let parts = and_parts (list_all is_plain w) (are_plain ws) h in
    let spelt : encodes w ≡ w = encodes-IsAscii w (ascii_of is_plain plain_is_ascii w parts.0) in
    alt_cong (literals w then same_of_eq (ap literal spelt)) (words_same ws parts.1)

abbrev whole : List (List ℕ) → Re
whole ws = cat (look Start) (cat (alt_all (map literal ws)) (look End))

whole_same : (ws : List (List ℕ)) → are_plain ws ≡ true → SameTree (whole_tree ws).value (whole ws)
whole_same ws h = alt-fail _ then cat_cong (same_refl _) (cat_cong (words_same ws h) (cat-empty _))

-- ---- a whole text matches them where it is one of them

one_of_whole : (ws : List (List ℕ)) (text : List ℕ) → Matches text (alt_all (map literal ws)) 0 (length text) → is_one_of ws text ≡ true
unfolding in_ranges
one_of_whole [] text m = absurd (false≢true m.2)
one_of_whole (w ∷ ws) text m =
    ⊎_elim
    (λ here.
    let ends : length text ≡ length w = omega (arith, here.1) in
    let none : drop (0 + length w) text ≡ [] = nil_from_length _ (omega (arith, length-drop (0 + length w) text)) in
    let same : w ≡ text = sym (has_bytes_at_parts text 0 w here.0 ∙ ap (λ rest. w ++ rest) none ∙ append-nil w) in
    or_left _ _ ((slice_eq-Decides Decides-eqb w text _ refl).1 same))
    (λ later. or_right _ _ (one_of_whole ws text later))
    m

whole_of_one : (ws : List (List ℕ)) (text : List ℕ) → is_one_of ws text ≡ true → Matches text (alt_all (map literal ws)) 0 (length text)
whole_of_one [] text h = absurd (false≢true h)
whole_of_one (w ∷ ws) text h =
    ⊎_elim
    (λ e.
    let same : w ≡ text = (slice_eq-Decides Decides-eqb w text _ refl).0 e in
    let fits : length text ≡ 0 + length w = omega (arith, ap length same) in
    inl (has_bytes_at_from text 0 w [] (sym same ∙ sym (append-nil w)), fits))
    (λ later. inr (whole_of_one ws text later))
    (or_cases (pointwise nat_eq w text) (is_one_of ws text) h)

one_is_utf8 : (ws : List (List ℕ)) (text : List ℕ) → are_plain ws ≡ true → is_one_of ws text ≡ true → IsUtf8 text
one_is_utf8 [] text h e = absurd (false≢true e)
one_is_utf8 (w ∷ ws) text h e =
    let parts = and_parts (list_all is_plain w) (are_plain ws) h in
    ⊎_elim
    (λ here. subst IsUtf8 ((slice_eq-Decides Decides-eqb w text _ refl).0 here)
    (IsUtf8-from_ascii w (ascii_of is_plain plain_is_ascii w parts.0)))
    (λ later. one_is_utf8 ws text parts.1 later)
    (or_cases (pointwise nat_eq w text) (is_one_of ws text) e)

found_is_one : (ws : List (List ℕ)) (text : List ℕ) → are_plain ws ≡ true → is_some (find_str (whole ws) text 0) ≡ is_one_of ws text
found_is_one ws text plain =
    let found : Decides (is_some (find_str (whole ws) text 0)) (is_one_of ws text ≡ true) = (
      λ e. one_of_whole ws text (whole_of_is_match (alt_all (map literal ws)) text e),
      λ e. is_match_of_whole (alt_all (map literal ws)) text (one_is_utf8 ws text plain e) (whole_of_one ws text e),
    ) in
    same_from_decides _ _ found (λ e. e, λ e. e)

tree_finds : (ws : List (List ℕ)) (text : List ℕ) → are_plain ws ≡ true → ((k : ℕ) → get_or text k 0 < 256) →
    is_some (find_str (whole_tree ws).value text 0) ≡ is_one_of ws text
tree_finds ws text plain bytes =
    is_match_alike ((alike_of_same (whole_same ws plain)).captures) text bytes true 0 ∙ found_is_one ws text plain

-- ---- the pattern

of_texts : (ws : List (List ℕ)) → 0 < length ws → are_plain ws ≡ true →
    read default_config (anchored (bars ws)) ≡ Some (whole_tree ws, names_read ws)
of_texts [] h plain = absurd (omega arith)
of_texts (w ∷ ws) h plain = pattern_is_read w ws plain

some_text : (p : List ℕ) → 0 < length (bar_texts p)
some_text p = omega (arith, length-slice_split (λ b. b == 0x7C) p)

read_as_texts : (p : List ℕ) → is_plain_pattern p ≡ true →
    read default_config (chars (anchored p)) ≡ Some (whole_tree (bar_texts p), names_read (bar_texts p))
read_as_texts p h =
    ap (read default_config) (chars-IsAscii (anchored p) (anchored_is_ascii p h) ∙ ap anchored (sym (join_with_byte-slice_split 0x7C p)))
    ∙ of_texts (bar_texts p) (some_text p) (texts_are_plain p h)

-- a plain pattern is a pattern
pub plain_is_pattern : (p : List ℕ) → is_plain_pattern p ≡ true → is_pattern (anchored p) ≡ true
plain_is_pattern p h =
    let low = whole_depth (bar_texts p) in
    ap is_shallow (read_as_texts p h) ∙ le-leb (whole_tree (bar_texts p)).depth 250 (omega arith)

-- and matches the texts between its bars
pub plain_matches : (p : List ℕ) → is_plain_pattern p ≡ true → (text : List ℕ) → ((k : ℕ) → get_or text k 0 < 256) →
    has_match (anchored p) text ≡ is_one_of (bar_texts p) text
plain_matches p h text bytes =
    ap (λ o. finds o text) (read_as_texts p h) ∙ tree_finds (bar_texts p) text (texts_are_plain p h) bytes
