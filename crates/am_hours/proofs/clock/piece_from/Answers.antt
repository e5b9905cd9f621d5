use Rattle.std.proofs.Common.{◌≡◌, ◌+◌, ℤ, ℕ, pos, ◌+ℤ◌, ◌*ℤ◌, Err, refl, ap, sym, ◌∙◌, subst, inl, inr, min, arith}
use Rattle.std.proofs.lemmas.Int.{ints}
use Rattle.std.proofs.lemmas.Result.{err_from_is_err_and}
use Rattle.jiff.specs.Words.{next_at, plain_zone}
use Rattle.am_hours.specs.Clocks.{IsNoPiece, left_in_month, stays, until_next}
use Rattle.am_hours.specs.Showing.{Shows}
use Rattle.am_hours.specs.declared.clock.ClockFault.TheVariants.{OutOfRange}
use Rattle.am_hours.proofs.Seconds.{refused_by, days_counted_at}
use Rattle.am_hours.proofs.clock.piece_from.Goals as goal

pub returns-in_err-shown-clause-refused : goal.returns-in_err-shown-clause-refused
returns-in_err-shown-clause-refused c =
    let zone = plain_zone c.args.zone in
    let n = (c.args.origin +ℤ pos c.args.at) *ℤ pos 1000000 in
    let dt = c.to_datetime-civil.result in
    let at : c.in_ok-now.now.nanosecond ≡ n = omega (arith, ints, c.in_ok-now.ensures.value, c.ranges.origin.sfits) in
    let p = err_from_is_err_and c.from_residual-in_err-shown.result c.from_residual-in_err-shown.ensures.1 in
    refused_by c.from_residual-in_err-shown.result OutOfRange (IsNoPiece zone n) (p.1 ∙ ap Err (p.2 ∙ c.in_err-shown.ensures.refused))
    (inr (dt, subst (λ (x : ℤ). Shows zone x dt) at c.to_datetime-civil.ensures, inl c.in_err-shown.ensures.early))

pub returns-in_err-days_of_month_at-clause-refused : goal.returns-in_err-days_of_month_at-clause-refused
returns-in_err-days_of_month_at-clause-refused c =
    let zone = plain_zone c.args.zone in
    let n = (c.args.origin +ℤ pos c.args.at) *ℤ pos 1000000 in
    let dt = c.to_datetime-civil.result in
    let local = c.in_ok-shown.ensures.shown in
    let at : c.in_ok-now.now.nanosecond ≡ n = omega (arith, ints, c.in_ok-now.ensures.value, c.ranges.origin.sfits) in
    let p = err_from_is_err_and c.from_residual-in_err-days_of_month_at.result c.from_residual-in_err-days_of_month_at.ensures.1 in
    let why = c.in_err-days_of_month_at.ensures.refused in
    refused_by c.from_residual-in_err-days_of_month_at.result OutOfRange (IsNoPiece zone n) (p.1 ∙ ap Err (p.2 ∙ why))
    (inr (
      dt,
      subst (λ (x : ℤ). Shows zone x dt) at c.to_datetime-civil.ensures,
      inr (days_counted_at zone _ dt.date.year _ dt.date.month _ (Err OutOfRange) local.year local.month (ap Err why) c.in_err-days_of_month_at.ensures.counted),
    ))

pub returns-clause-shown : goal.returns-clause-shown
returns-clause-shown c =
    let dt = c.to_datetime-civil.result in
    let local = c.in_ok-shown.ensures.shown in
    let at : c.in_ok-now.now.nanosecond ≡ (c.args.origin +ℤ pos c.args.at) *ℤ pos 1000000 =
    omega (arith, ints, c.in_ok-now.ensures.value, c.ranges.origin.sfits) in (
      dt,
      subst (λ (n : ℤ). Shows (plain_zone c.args.zone) n dt) at c.to_datetime-civil.ensures,
      record { year = local.year; month = local.month; day = local.day; weekday = local.weekday; time = local.time },
    )

pub returns-clause-piece : goal.returns-clause-piece
returns-clause-piece c =
    let zone = plain_zone c.args.zone in
    let n = (c.args.origin +ℤ pos c.args.at) *ℤ pos 1000000 in
    let dt = c.to_datetime-civil.result in
    let local = c.in_ok-shown.ensures.shown in
    let change = c.in_ok-until_change.field-0 in
    let at : c.in_ok-now.now.nanosecond ≡ n = omega (arith, ints, c.in_ok-now.ensures.value, c.ranges.origin.sfits) in
    let stay : c.shorter-stays.result ≡ stays (left_in_month dt) change =
    c.shorter-stays.ensures ∙ ap (λ (left : ℕ). stays left change) c.left_in_month.ensures.value in
    record {
      dt = dt;
      shows = subst (λ (x : ℤ). Shows zone x dt) at c.to_datetime-civil.ensures;
      begins = record { year = local.year; month = local.month; day = local.day; weekday = local.weekday; time = local.time };
      change = change;
      changes = sym (c.in_ok-until_change.ensures.value ∙ ap (λ (x : ℤ). until_next (next_at zone x) x) at);
      ends = c.min.ensures ∙ ap (λ (s : ℕ). min c.args.horizon (c.args.at + s)) stay;
      counted = days_counted_at zone _ dt.date.year _ dt.date.month _ _ local.year local.month refl c.in_ok-days_of_month_at.ensures.counted;
    }
