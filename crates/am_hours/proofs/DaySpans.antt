-- The spans of the minutes of a day, on a piece of a clock.
use Rattle.std.proofs.Common.{◌≡◌, ℕ, ◌+◌, ◌-◌, ◌*◌, ◌/◌, ◌%◌, ◌<◌, ◌≤◌, Bool, true, false, List, refl, ap, sym, ◌∙◌, inl, inr, arith}
use Rattle.std.specs.Prelude.{◌&&◌, ◌||◌, ◌==◌, nat_le, nat_lt, min}
use Rattle.std.proofs.lemmas.Bool.{and_parts, and_from, or_cases, or_left, or_right, ltb-true, leb-true, eqb-true, lt-ltb, le-leb, eq-eqb, cases_lt}
use Rattle.am_alerts.specs.declared.spans.Span.{Span}
use Rattle.am_hours.specs.declared.piece.Piece.{Piece}
use Rattle.am_hours.specs.Intervals.{IntervalData, any_of, contains, is_during, is_on_date}
use Rattle.am_alerts.specs.Spans.{holds, is_muted}
use Rattle.am_hours.specs.Pieces.{day_at, is_in, local_at, minute_at, shown, shown_on}
use Rattle.am_alerts.proofs.Muted.{holds-says, holds-made}
use Rattle.am_hours.proofs.Apart.{same_tests}

-- between two minutes of a day, on a local clock
pub minutes-in : (L day f g q r k z : ℕ) → 86400000 * q + r ≡ L → r < 86400000 → 60000 * k + z ≡ r → z < 60000
    → day * 86400000 + min f 1440 * 60000 ≤ L → L < day * 86400000 + min g 1440 * 60000
    → (q ≡ day) × (f ≤ k) × (k < g)
minutes-in L day f g q r k z l below m less from to =
    let e : q ≡ day = omega arith in
    (e, omega arith, omega arith)

pub minutes-out : (L day f g q r k z : ℕ) → 86400000 * q + r ≡ L → r < 86400000 → 60000 * k + z ≡ r → z < 60000
    → q ≡ day → f ≤ k → k < g
    → (day * 86400000 + min f 1440 * 60000 ≤ L) × (L < day * 86400000 + min g 1440 * 60000)
minutes-out L day f g q r k z l below m less e from to = (omega arith, omega arith)

-- the span of a day's minutes on a piece holds the times of the piece on that day, in these minutes
pub holds-day : (p : Piece) (s m : Span) (day t : ℕ)
    → s.from ≡ p.from + (day * 86400000 + min m.from 1440 * 60000 - p.time)
    → s.to ≡ min (p.from + (day * 86400000 + min m.to 1440 * 60000 - p.time)) p.to
    → holds s t ≡ (is_in p t && ((day_at p t == day) && holds m (minute_at p t)))
holds-day p s m day t from to =
    let L = local_at p t in
    let q = L / 86400000 in
    let r = L % 86400000 in
    let k = r / 60000 in
    let z = r % 60000 in
    let days : 86400000 * q + r ≡ L = omega arith in
    let day_left : r < 86400000 = omega arith in
    let minutes : 60000 * k + z ≡ r = omega arith in
    let minute_left : z < 60000 = omega arith in
    same_tests (holds s t) (is_in p t && ((day_at p t == day) && holds m (minute_at p t)))
    (λ h.
    let c = holds-says s t h in
    let low : p.from ≤ t = omega (arith, c.0, from) in
    let high : t < p.to = omega (arith, c.1, to) in
    let x = minutes-in L day m.from m.to q r k z days day_left minutes minute_left
    (omega (arith, c.0, from)) (omega (arith, c.1, to)) in
    and_from (is_in p t) ((day_at p t == day) && holds m (minute_at p t))
    (and_from (nat_le p.from t) (nat_lt t p.to) (le-leb p.from t low) (lt-ltb t p.to high))
    (and_from (day_at p t == day) (holds m (minute_at p t)) (eq-eqb q day x.0) (holds-made m k x.1 x.2)))
    (λ h.
    let a = and_parts (is_in p t) ((day_at p t == day) && holds m (minute_at p t)) h in
    let b = and_parts (nat_le p.from t) (nat_lt t p.to) a.0 in
    let c = and_parts (day_at p t == day) (holds m (minute_at p t)) a.1 in
    let low = leb-true p.from t b.0 in
    let high = ltb-true t p.to b.1 in
    let d = holds-says m k c.1 in
    let x = minutes-out L day m.from m.to q r k z days day_left minutes minute_left (eqb-true q day c.0) d.0 d.1 in
    holds-made s t (omega (arith, x.0, low, from)) (omega (arith, x.1, low, high, to)))

-- one span more of a day's minutes
pub day-more : (a b c x y : Bool) → ((a || (b && (c && x))) || (b && (c && y))) ≡ (a || (b && (c && (x || y))))
day-more true b c x y = refl
day-more false false c x y = refl
day-more false true false x y = refl
day-more false true true x y = refl

pub no_minutes : (a b c : Bool) → a ≡ (a || (b && (c && false)))
no_minutes true b c = refl
no_minutes false false c = refl
no_minutes false true true = refl
no_minutes false true false = refl

-- a day more
pub less_or_same : (d k : ℕ) → nat_lt d (k + 1) ≡ (nat_lt d k || (d == k))
less_or_same d k =
    same_tests (nat_lt d (k + 1)) (nat_lt d k || (d == k))
    (λ h. let l = ltb-true d (k + 1) h in
    elim (cases_lt d k) [
      | inl a ↦ or_left (nat_lt d k) (d == k) (lt-ltb d k a)
      | inr a ↦ or_right (nat_lt d k) (d == k) (eq-eqb d k (omega (arith, l)))
    ])
    (λ h. elim (or_cases (nat_lt d k) (d == k) h) [
      | inl a ↦ let l = ltb-true d k a in lt-ltb d (k + 1) (omega (arith, l))
      | inr a ↦ let e = eqb-true d k a in lt-ltb d (k + 1) (omega (arith, e))
    ])

or_false : (a : Bool) → (a || false) ≡ a
or_false true = refl
or_false false = refl

and_true : (a : Bool) → a ≡ (a && true)
and_true true = refl
and_true false = refl

and_false : (a : Bool) → false ≡ (a && false)
and_false true = refl
and_false false = refl

on_bools : (lt eq a od : Bool) → (eq ≡ true → od ≡ true) → (lt ≡ true → eq ≡ true → ⊥)
    → ((lt && (a && od)) || (eq && a)) ≡ ((lt || eq) && (a && od))
on_bools true true a od on apart = absurd (apart refl refl)
on_bools true false a od on apart = or_false (a && od)
on_bools false true a od on apart = and_true a ∙ ap (λ b. a && b) (sym (on refl))
on_bools false false a od on apart = refl

off_bools : (lt eq a od : Bool) → (eq ≡ true → od ≡ false)
    → (lt && (a && od)) ≡ ((lt || eq) && (a && od))
off_bools true eq a od off = refl
off_bools false true a od off = and_false a ∙ ap (λ b. a && b) (sym (off refl))
off_bools false false a od off = refl

-- on a day on which an interval holds at some time, and on one on which it doesn't
pub step-on : (A : Bool) (O : ℕ → Bool) (d k : ℕ) → O k ≡ true
    → ((nat_lt d k && (A && O d)) || ((d == k) && A)) ≡ (nat_lt d (k + 1) && (A && O d))
step-on A O d k on =
    on_bools (nat_lt d k) (d == k) A (O d) (λ e. ap O (eqb-true d k e) ∙ on)
    (λ l e. let a = ltb-true d k l in let b = eqb-true d k e in omega (arith, a, b))
    ∙ ap (λ b. b && (A && O d)) (sym (less_or_same d k))

pub step-off : (A : Bool) (O : ℕ → Bool) (d k : ℕ) → O k ≡ false
    → (nat_lt d k && (A && O d)) ≡ (nat_lt d (k + 1) && (A && O d))
step-off A O d k off =
    off_bools (nat_lt d k) (d == k) A (O d) (λ e. ap O (eqb-true d k e) ∙ off)
    ∙ ap (λ b. b && (A && O d)) (sym (less_or_same d k))

-- what a day adds to a piece
pub piece-more : (a i x y : Bool) → ((a || (i && x)) || (i && y)) ≡ (a || (i && (x || y)))
piece-more true i x y = refl
piece-more false false x y = refl
piece-more false true x y = refl

-- what a day on which an interval holds at some time adds to a piece
pub piece-step-on : (i : IntervalData) (p : Piece) (minutes old before after : List Span) (k t : ℕ)
    → ((m : ℕ) → m < 1440 → is_muted minutes m ≡ any_of (is_during m) i.times)
    → is_on_date i (shown_on p k 0) ≡ true
    → is_muted before t ≡ (is_muted old t || (is_in p t && (nat_lt (day_at p t) k && contains i (shown p t))))
    → is_muted after t ≡ (is_muted before t || (is_in p t && ((day_at p t == k) && is_muted minutes (minute_at p t))))
    → is_muted after t ≡ (is_muted old t || (is_in p t && (nat_lt (day_at p t) (k + 1) && contains i (shown p t))))
piece-step-on i p minutes old before after k t same on before_is after_is =
    let d = day_at p t in
    let m = minute_at p t in
    let during = any_of (is_during m) i.times in
    let here : m < 1440 = omega arith in
    after_is
    ∙ ap (λ b. b || (is_in p t && ((d == k) && is_muted minutes m))) before_is
    ∙ piece-more (is_muted old t) (is_in p t) (nat_lt d k && contains i (shown p t)) ((d == k) && is_muted minutes m)
    ∙ ap (λ b. is_muted old t || (is_in p t && ((nat_lt d k && contains i (shown p t)) || ((d == k) && b)))) (same m here)
    ∙ ap (λ b. is_muted old t || (is_in p t && b)) (step-on during (λ x. is_on_date i (shown_on p x 0)) d k on)

-- and one on which it holds at none
pub piece-step-off : (i : IntervalData) (p : Piece) (old before : List Span) (k t : ℕ)
    → is_on_date i (shown_on p k 0) ≡ false
    → is_muted before t ≡ (is_muted old t || (is_in p t && (nat_lt (day_at p t) k && contains i (shown p t))))
    → is_muted before t ≡ (is_muted old t || (is_in p t && (nat_lt (day_at p t) (k + 1) && contains i (shown p t))))
piece-step-off i p old before k t off before_is =
    let d = day_at p t in
    before_is
    ∙ ap (λ b. is_muted old t || (is_in p t && b))
    (step-off (any_of (is_during (minute_at p t)) i.times) (λ x. is_on_date i (shown_on p x 0)) d k off)
