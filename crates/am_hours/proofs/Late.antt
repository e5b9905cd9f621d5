-- Why times make no list of spans.
use Rattle.std.proofs.Common.{◌≡◌, ℕ, ◌≤◌, ◌<◌, ◌-◌, Bool, true, false, List, [], ◌∷◌, length, refl, ap, ◌∙◌, inl, inr, arith}
use Rattle.std.specs.Prelude.{◌&&◌, ◌||◌, ◌⊎◌, not, nat_le, nat_lt, IfErr, Some, None, Result, Ok, Err, if◌then◌else◌}
use Rattle.std.proofs.lemmas.Bool.{or_left, or_right, cases_lt, le-leb}
use Rattle.am_alerts.specs.declared.limits.TheConstants.{MAX_TIME, MAX_SPANS}
use Rattle.am_alerts.specs.declared.spans.Span.{Span}
use Rattle.am_alerts.specs.declared.spans.SpansFault.{SpansFault}
use Rattle.am_alerts.specs.declared.spans.SpansFault.TheVariants as Given
use Rattle.am_alerts.specs.Spans.{holds, is_muted, are_apart, end_in_time, spans_fault}
use Rattle.am_hours.specs.declared.fault.HoursFault.{HoursFault}
use Rattle.am_hours.specs.Muting.{IsNoSpans, any_muted, hours_fault, is_muted_by_time}
use Rattle.am_alerts.proofs.Muted.{apart-parts, holds-made}

and_rest : (a b : Bool) → a ≡ true → (a && b) ≡ false → b ≡ false
and_rest true b p h = h
and_rest false b p h = cc

-- a span that ends too late holds a time that is too late
late : (xs : List Span) → are_apart xs ≡ true → end_in_time xs ≡ false → (t : ℕ) × (MAX_TIME ≤ t) × (is_muted xs t ≡ true)
late [] a h = cc
late (x ∷ xs) a h =
    let p = apart-parts x xs a in
    elim (cases_lt MAX_TIME x.to) [
      | inl behind ↦ (
        x.to - 1,
        omega (arith, behind),
        or_left (holds x (x.to - 1)) (is_muted xs (x.to - 1))
            (holds-made x (x.to - 1) (omega (arith, p.0)) (omega (arith, p.0))),
      )
      | inr within ↦
          let le : nat_le x.to MAX_TIME ≡ true = le-leb x.to MAX_TIME within in
          let rest = late xs p.2 (and_rest (nat_le x.to MAX_TIME) (end_in_time xs) le h) in
          (rest.0, rest.1, or_right (holds x rest.0) (is_muted xs rest.0) rest.2)
    ]

-- what `spans_fault` says of lists that are apart and not too long
said : (a b c : Bool) (fault : SpansFault) → a ≡ true → b ≡ true
    → (if not a then Some Given.BadOrder else (if not b then Some Given.TooMany else (if not c then Some Given.BadTime else None)))
    ≡ Some fault
    → (c ≡ false) × (fault ≡ Given.BadTime)
said true true true fault p q h = cc
said true true false fault p q h = (refl, cc)
said true false c fault p q h = cc
said false b c fault p q h = cc

pub no_spans : (n : ℕ) (xs : List Span) (fault : SpansFault) (h : HoursFault) → h ≡ hours_fault fault → are_apart xs ≡ true
    → length xs ≤ MAX_SPANS → (fault ≡ Given.NoMemory) ⊎ (spans_fault xs ≡ Some fault) → IsNoSpans n (λ t. is_muted xs t) h
no_spans n xs fault h e apart few (inl none) = inl (inl (e ∙ ap hours_fault none))
no_spans n xs fault h e apart few (inr says) =
    let p = said (are_apart xs) (nat_le (length xs) MAX_SPANS) (end_in_time xs) fault apart (le-leb (length xs) MAX_SPANS few) says in
    let found = late xs apart p.0 in
    inr (e ∙ ap hours_fault p.1, found.0, found.1, found.2)

-- the same of more spans, and of times among others
pub no_spans-more : (m n : ℕ) (f g : ℕ → Bool) (h : HoursFault) → m ≤ n → ((t : ℕ) → f t ≡ true → g t ≡ true)
    → IsNoSpans m f h → IsNoSpans n g h
no_spans-more m n f g h le within (inl (inl none)) = inl (inl none)
no_spans-more m n f g h le within (inl (inr (many, above))) = inl (inr (many, omega (arith, le, above)))
no_spans-more m n f g h le within (inr (long, t, behind, held)) = inr (long, t, behind, within t held)

pub err_more : {X : Type 0} (r : Result X HoursFault) (m n : ℕ) (f g : ℕ → Bool) → m ≤ n → ((t : ℕ) → f t ≡ true → g t ≡ true)
    → IfErr r (IsNoSpans m f) → IfErr r (IsNoSpans n g)
err_more (Ok x) m n f g le within e = e
err_more (Err h) m n f g le within e = no_spans-more m n f g h le within e

-- the times of the parts of which spans are joined
pub muted_as : (horizon t : ℕ) (mute active : List (List Span)) (muted active_now idle joined : Bool) → 0 < length active
    → muted ≡ any_muted mute t → active_now ≡ any_muted active t → idle ≡ (nat_lt t horizon && not active_now) → joined ≡ (muted || idle)
    → joined ≡ is_muted_by_time horizon mute active t
muted_as horizon t mute [] muted active_now idle joined h p q r s = absurd (omega (arith, h))
muted_as horizon t mute (x ∷ xs) muted active_now idle joined h p q r s =
    s ∙ ap (λ b. b || idle) p ∙ ap (λ b. any_muted mute t || b) r ∙ ap (λ b. any_muted mute t || (nat_lt t horizon && not b)) q
