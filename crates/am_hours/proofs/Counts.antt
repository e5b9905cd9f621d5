-- How many spans there are at most.
use Rattle.std.proofs.Common.{ℕ, ◌+◌, ◌*◌, ◌≤◌, ◌<◌, ◌≡◌, List, Vec, vec_len, ap, inl, inr, arith}
use Rattle.std.specs.Prelude.{IfErr, IfOk, Result, Ok, Err}
use Rattle.std.specs.Global.{Global}
use Rattle.std.specs.List.{sum_by}
use Rattle.am_alerts.specs.declared.spans.Span.{Span}
use Rattle.am_hours.specs.declared.fault.HoursFault.{HoursFault}
use Rattle.am_hours.specs.Merging.{IsRefusal}
use Rattle.std.proofs.Math.Nat.{mul-le-mul_left, mul-le-mul_right}
use Rattle.std.proofs.lemmas.List.Sums.{sum_by-le-sum_by}
use Rattle.am_hours.specs.Intervals.{IntervalData}
use Rattle.am_hours.specs.Pieces.{days_in, most_spans, ranges_in}
use Rattle.am_hours.specs.declared.piece.Piece.{Piece}

-- the spans of a day more, below the end
pub days_below : (d days m : ℕ) → d < days → d * m + m ≤ days * m
days_below d days m h =
    let all = mul-le-mul_right m h in
    omega (arith, all)

-- as many ranges as an interval has make its spans, at most
pub on_pieces : (m : ℕ) (i : IntervalData) (some pieces : List Piece) → some ≡ pieces → m ≤ ranges_in i.times
    → sum_by (λ p. days_in p * m) some ≤ most_spans i pieces
on_pieces m i some pieces same h =
    let all = sum_by-le-sum_by (λ (p : Piece). days_in p * m) (λ (p : Piece). days_in p * ranges_in i.times) some
    (λ p. mul-le-mul_left (days_in p) h) in
    let here = ap (λ (ps : List Piece). sum_by (λ p. days_in p * ranges_in i.times) ps) same in
    omega (arith, all, here)

-- bounds can be larger
pub ok_less : (r : Result (Vec Span Global) HoursFault) (m n : ℕ) → m ≤ n → IfOk r (λ s. vec_len s ≤ m) → IfOk r (λ s. vec_len s ≤ n)
ok_less (Ok s) m n h few = omega (arith, h, few)
ok_less (Err fault) m n h few = few

pub err_less : (r : Result (Vec Span Global) HoursFault) (m n : ℕ) → m ≤ n → IfErr r (IsRefusal m) → IfErr r (IsRefusal n)
err_less (Ok s) m n h why = why
err_less (Err fault) m n h (inl none) = inl none
err_less (Err fault) m n h (inr (many, above)) = inr (many, omega (arith, h, above))
