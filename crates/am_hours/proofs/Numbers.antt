-- The numbers that texts write.
use Rattle.std.proofs.Common.{◌≡◌, ℕ, ◌^◌, ℤ, pos, negsuc, true, List, length, Result, Ok, Err, Some, None, sym, ap, ◌∙◌, Decides}
use Rattle.std.specs.Int.{w64}
use Rattle.std.specs.Int.RustNames.{FitsSigned}
use Rattle.std.specs.Result.{result_ok}
use Rattle.std.specs.Str.{all_ascii_digits}
use Rattle.std.specs.Str.Parse.{IsNumeral, ParsesSigned, digits_value, signed_digits_value, without_leading_sign}
use Rattle.std.proofs.lemmas.Bool.{cond-true, cond-false, false_from_ne_true, lt-ltb, ltb-true}
use Rattle.std.proofs.lemmas.Bool.Decides.{Decides-and, Decides-ltb}
use Rattle.std.proofs.lemmas.Str.Parse.{IsNumeralModel, numerals_by_value, tells_all_ascii_digits}
use Rattle.am_hours.specs.Reading.{has_64_bits, is_number, number_in}

fits : (z : ℤ) → Decides (has_64_bits z) (FitsSigned w64 z)
fits (pos n) = (λ e. record { sfits = ltb-true n (2 ^ 63) e }, λ f. lt-ltb n (2 ^ 63) f.sfits)
fits (negsuc n) = (λ e. record { sfits = ltb-true n (2 ^ 63) e }, λ f. lt-ltb n (2 ^ 63) f.sfits)

own : IsNumeralModel (λ ds. all_ascii_digits ds ≡ true) (digits_value 10)
own = numerals_by_value (λ ds. all_ascii_digits ds ≡ true) tells_all_ascii_digits

is_number-decides : (bs : List ℕ) → Decides (is_number bs) (IsNumeral 10 (without_leading_sign bs) × FitsSigned w64 (signed_digits_value 10 bs))
is_number-decides bs =
    let ds = without_leading_sign bs in
    Decides-and _ (has_64_bits (signed_digits_value 10 bs))
    (Decides-and _ (all_ascii_digits ds) (Decides-ltb 0 (length ds)) (own.to ds, own.from ds)) (fits (signed_digits_value 10 bs))

-- what `parse` reads
pub number_in-parsed : {E : Type 0} (bs : List ℕ) (r : Result ℤ E) → ParsesSigned w64 10 bs r → result_ok r ≡ number_in bs
number_in-parsed bs (Ok x) h =
    ap Some h.1 ∙ sym (cond-true (is_number bs) (Some (signed_digits_value 10 bs)) None ((is_number-decides bs).1 h.0))
number_in-parsed bs (Err e) h =
    sym (cond-false (is_number bs) (Some (signed_digits_value 10 bs)) None
    (false_from_ne_true (is_number bs) (λ t. h ((is_number-decides bs).0 t))))
