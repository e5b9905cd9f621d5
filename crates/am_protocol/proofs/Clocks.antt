-- The clocks of a line: members with defaults, texts, and zones one after the other.
use Rattle.std.proofs.Common.{◌≡◌, ◌++◌, ℕ, List, [], ◌∷◌, Option, Some, Result, Ok, Err, MatchOption, subst}
use Rattle.std.specs.Prelude.{IfOk, IsSomeAnd, string_bytes}
use Rattle.serde_json.proofs.Views.{Entry}
use Rattle.serde_json.specs.Data.{Data}
use Rattle.serde_json.specs.View.{members_view, view}
use Rattle.am_config.specs.declared.hours.NamedZone.{NamedZone}
use Rattle.am_protocol.specs.Hours.{AreZones, IsZone}

-- a member that is there says what was read
pub given_ok : {X E : Type 0} (P : Data → X → Type 0) (Absent : X → Type 0) (r : Result X E) (o : Option Data) (value : Data)
    → Some value ≡ o → IfOk r (P value) → IfOk r (λ x. MatchOption o (Absent x) (λ v. P v x))
given_ok P Absent (Ok x) o value is read = subst (λ (p : Option Data). MatchOption p (Absent x) (λ v. P v x)) is read
given_ok P Absent (Err f) o value is read = tt

-- what holds of a text holds of what is the text
pub of_text : (P : List ℕ → Type 0) (o : Option (List ℕ)) (text : List ℕ) → Some text ≡ o → P text → IsSomeAnd o P
of_text P o text is holds = subst (λ (q : Option (List ℕ)). IsSomeAnd q P) is holds

pub of_text_ok : {X E : Type 0} (P : List ℕ → X → Type 0) (r : Result X E) (o : Option (List ℕ)) (text : List ℕ) → Some text ≡ o → IfOk r (P text)
    → IfOk r (λ x. IsSomeAnd o (λ t. P t x))
of_text_ok P (Ok x) o text is holds = of_text (λ t. P t x) o text is holds
of_text_ok P (Err f) o text is holds = tt

-- one more zone
pub zones_more : (done : List Entry) (zones : List NamedZone) (e : Entry) (z : NamedZone) → AreZones (members_view done) zones
    → z.name ≡ string_bytes e.0 → IsZone (view e.1) z.zone → AreZones (members_view (done ++ e ∷ [])) (zones ++ z ∷ [])
zones_more [] [] e z so_far named is = (named, is, tt)
zones_more [] (y ∷ zones) e z so_far named is = absurd so_far
zones_more (d ∷ done) [] e z so_far named is = absurd so_far
zones_more (d ∷ done) (y ∷ zones) e z so_far named is = (so_far.0, so_far.1, zones_more done zones e z so_far.2 named is)
