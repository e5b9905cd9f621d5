-- Starts that a member can't say.
use Rattle.std.proofs.Common.{◌≡◌, ℕ, List, Option, Some, None, subst, sym}
use Rattle.std.specs.Prelude.{IsSomeAnd}
use Rattle.serde_json.specs.Data.{Data}
use Rattle.serde_json.specs.Find.{as_str}
use Rattle.am_input.specs.Request.{DecodesToStart}
use Rattle.am_terms.specs.UtcDates.{IsReadFrom, StartData}

-- what is given of a text
decoded_of : (found : Option Data) (value : Data) (text : Option (List ℕ)) (start : Option StartData) → Some value ≡ found → text ≡ as_str value
    → DecodesToStart found start → IsSomeAnd text (λ t. IsSomeAnd start (IsReadFrom t))
decoded_of found value text start there is decoded =
    subst (λ (o : Option (List ℕ)). IsSomeAnd o (λ t. IsSomeAnd start (IsReadFrom t))) (sym is)
    (subst (λ (o : Option Data). DecodesToStart o start) (sym there) decoded)

-- a member that is no text says none
pub no_text_starts : (found : Option Data) (value : Data) (start : Option StartData) → Some value ≡ found → None ≡ as_str value → DecodesToStart found start → ⊥
no_text_starts found value start there is decoded = decoded_of found value None start there is decoded

-- nor does a text that is read as none
pub none_starts : (found : Option Data) (value : Data) (text : List ℕ) (start : Option StartData) → Some value ≡ found → Some text ≡ as_str value
    → ((s : StartData) → IsReadFrom text s → ⊥) → DecodesToStart found start → ⊥
none_starts found value text start there is never decoded = by start (decoded_of found value (Some text) start there is decoded)
  where
    by : (o : Option StartData) → IsSomeAnd o (IsReadFrom text) → ⊥
    by None is_read = is_read
    by (Some s) is_read = never s is_read
