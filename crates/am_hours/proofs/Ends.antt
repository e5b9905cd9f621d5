-- The ends of a range: the parts of a text between its colons.
use Rattle.std.proofs.Common.{◌≡◌, ◌≢◌, ℕ, ◌<◌, ◌≤◌, cond, false, List, [], ◌∷◌, ◌++◌, length, get_or, Ok, Err, refl, ap, ◌∙◌, arith}
use Rattle.std.specs.List.{All, count_by, slice_split}
use Rattle.std.proofs.lemmas.Bool.{eq-eqb, ne_eqb}
use Rattle.std.proofs.lemmas.List.{get_or_default}
use Rattle.std.proofs.lemmas.List.Splits.{length-slice_split, slice_split_none, slice_split_at}
use Rattle.std.proofs.lemmas.List.Sums.{get_or-le-sum_by}
use Rattle.am_hours.specs.declared.reading.RangeFault.TheVariants.{BadForm}
use Rattle.am_hours.specs.Reading.{is_colon, ends_among, ends_of}

-- no byte of a list is a colon
abbrev pub HasNoColon : List ℕ → Type 0
HasNoColon xs = (i : ℕ) → i < length xs → get_or xs i 0 ≢ 58

no_colons : (xs : List ℕ) → HasNoColon xs → All (λ x. is_colon x ≡ false) xs
no_colons xs h k d l = ne_eqb (get_or xs k d) 58 (λ e. h k l (get_or_default xs k 0 d l ∙ e))

some_colon : (xs : List ℕ) (k : ℕ) → k < length xs → get_or xs k 0 ≡ 58 → 1 ≤ count_by is_colon xs
some_colon xs k l e =
    let one : ◌≡◌ {A = ℕ} (cond (is_colon (get_or xs k 0)) 1 0) 1 = ap (λ b. cond b 1 0) (eq-eqb (get_or xs k 0) 58 e) in
    omega (arith, get_or-le-sum_by (λ x. cond (is_colon x) 1 0) xs k 0 l, one)

too_many : (first : List ℕ) (parts : List (List ℕ)) → 2 ≤ length parts → ends_among (first ∷ parts) ≡ Err BadForm
too_many first [] l = absurd (omega arith)
too_many first (x ∷ []) l = absurd (omega arith)
too_many first (x ∷ y ∷ parts) l = refl

-- without a colon, the whole text is both ends
pub ends_same : (text : List ℕ) → HasNoColon text → ends_of text ≡ Ok (text, text)
ends_same text h = ap ends_among (slice_split_none is_colon text (no_colons text h))

-- with one, the ends are before and behind it
pub ends_two : (text first last : List ℕ) → text ≡ first ++ (58 ∷ last) → HasNoColon first → HasNoColon last → ends_of text ≡ Ok (first, last)
ends_two text first last e f l =
    ap ends_of e ∙ ap ends_among (slice_split_at is_colon first 58 last (no_colons first f) refl
    ∙ ap (λ (parts : List (List ℕ)). first ∷ parts) (slice_split_none is_colon last (no_colons last l)))

-- with more, there are none
pub ends_none : (text first last : List ℕ) (k : ℕ) → text ≡ first ++ (58 ∷ last) → HasNoColon first → k < length last
    → get_or last k 0 ≡ 58 → ends_of text ≡ Err BadForm
ends_none text first last k e f l h =
    ap ends_of e ∙ ap ends_among (slice_split_at is_colon first 58 last (no_colons first f) refl)
    ∙ too_many first (slice_split is_colon last) (omega (arith, length-slice_split is_colon last, some_colon last k l h))
