use Rattle.std.proofs.Common.{◌≡◌, ℤ, pos, Result, Ok, Err, ap, ◌∙◌, subst, to_z, of_z, w64, FitsSigned, rules, arith}
use Rattle.std.proofs.lemmas.Int.{ints, to_z-of_z}
use Rattle.std.proofs.lemmas.Result.{err_from_is_err_and}
use Rattle.jiff.specs.Words.{IsTimestampNanos, nanos_of_seconds, plain_zone}
use Rattle.am_hours.specs.Clocks.{days_between, second_of}
use Rattle.am_hours.specs.Reading.{and_then}
use Rattle.am_hours.specs.declared.clock.ClockFault.{ClockFault}
use Rattle.am_hours.proofs.Seconds.{days_from-early, days_from-local, days_counted_from}
use Rattle.am_hours.proofs.local.days_of_month_at.Goals as goal

pub returns-in_err-of-clause-counted : goal.returns-in_err-of-clause-counted
returns-in_err-of-clause-counted c =
    let zone = plain_zone c.args.zone in
    let start = c.in_ok-month_start.field-0 in
    let first = c.in_ok-first.first in
    let dt = c.to_datetime-shown.result in
    let at = c.in_ok-second_at.field-0 in
    let fit : FitsSigned w64 first = search rules in
    let whole : to_z w64 (of_z w64 start) ≡ start = omega (arith, ints, c.in_ok-month_start.ensures.bound) in
    let n : at.nanosecond ≡ nanos_of_seconds first = c.in_ok-second_at.ensures.value ∙ ap nanos_of_seconds (to_z-of_z w64 first fit) in
    let p = err_from_is_err_and c.from_residual-in_err-of.result c.from_residual-in_err-of.ensures.1 in
    days_counted_from zone (pos c.args.local.now.year) c.args.local.now.month start first at.nanosecond dt c.from_residual-in_err-of.result c.in_ok-month_start.ensures.value
    (c.in_ok-first.ensures.value ∙ ap (second_of zone) whole) (subst IsTimestampNanos n at.in_range) n c.to_datetime-shown.ensures
    (p.1 ∙ ap Err (p.2 ∙ c.in_err-of.ensures.refused) ∙ days_from-early zone first dt c.in_err-of.ensures.early)

pub returns-in_err-month_later-clause-counted : goal.returns-in_err-month_later-clause-counted
returns-in_err-month_later-clause-counted c =
    let zone = plain_zone c.args.zone in
    let start = c.in_ok-month_start.field-0 in
    let first = c.in_ok-first.first in
    let dt = c.to_datetime-shown.result in
    let at = c.in_ok-second_at.field-0 in
    let fit : FitsSigned w64 first = search rules in
    let whole : to_z w64 (of_z w64 start) ≡ start = omega (arith, ints, c.in_ok-month_start.ensures.bound) in
    let n : at.nanosecond ≡ nanos_of_seconds first = c.in_ok-second_at.ensures.value ∙ ap nanos_of_seconds (to_z-of_z w64 first fit) in
    let local = days_from-local zone first dt c.in_ok-of.field-0 c.in_ok-of.ensures.year c.in_ok-of.ensures.shown in
    let p = err_from_is_err_and c.from_residual-in_err-month_later.result c.from_residual-in_err-month_later.ensures.1 in
    let then = λ (later : Result ℤ ClockFault). and_then (days_between first) (and_then (second_of zone) later) in
    days_counted_from zone (pos c.args.local.now.year) c.args.local.now.month start first at.nanosecond dt c.from_residual-in_err-month_later.result c.in_ok-month_start.ensures.value
    (c.in_ok-first.ensures.value ∙ ap (second_of zone) whole) (subst IsTimestampNanos n at.in_range) n c.to_datetime-shown.ensures
    (p.1 ∙ ap Err p.2 ∙ ap then c.in_err-month_later.ensures.value ∙ local)

pub returns-in_err-next-clause-counted : goal.returns-in_err-next-clause-counted
returns-in_err-next-clause-counted c =
    let zone = plain_zone c.args.zone in
    let start = c.in_ok-month_start.field-0 in
    let first = c.in_ok-first.first in
    let dt = c.to_datetime-shown.result in
    let at = c.in_ok-second_at.field-0 in
    let fit : FitsSigned w64 first = search rules in
    let whole : to_z w64 (of_z w64 start) ≡ start = omega (arith, ints, c.in_ok-month_start.ensures.bound) in
    let n : at.nanosecond ≡ nanos_of_seconds first = c.in_ok-second_at.ensures.value ∙ ap nanos_of_seconds (to_z-of_z w64 first fit) in
    let local = days_from-local zone first dt c.in_ok-of.field-0 c.in_ok-of.ensures.year c.in_ok-of.ensures.shown in
    let p = err_from_is_err_and c.from_residual-in_err-next.result c.from_residual-in_err-next.ensures.1 in
    let later = c.in_ok-month_later.field-0 in
    let fits : FitsSigned w64 later = search rules in
    let then = λ (r : Result ℤ ClockFault). and_then (days_between first) (and_then (second_of zone) r) in
    let none : Err c.in_err-next.field-0.0 ≡ second_of zone later = c.in_err-next.ensures.value ∙ ap (second_of zone) (to_z-of_z w64 later fits) in
    days_counted_from zone (pos c.args.local.now.year) c.args.local.now.month start first at.nanosecond dt c.from_residual-in_err-next.result c.in_ok-month_start.ensures.value
    (c.in_ok-first.ensures.value ∙ ap (second_of zone) whole) (subst IsTimestampNanos n at.in_range) n c.to_datetime-shown.ensures
    (p.1 ∙ ap Err p.2 ∙ ap (and_then (days_between first)) none ∙ ap then c.in_ok-month_later.ensures.value ∙ local)

pub returns-clause-counted : goal.returns-clause-counted
returns-clause-counted c =
    let zone = plain_zone c.args.zone in
    let start = c.in_ok-month_start.field-0 in
    let first = c.in_ok-first.first in
    let dt = c.to_datetime-shown.result in
    let at = c.in_ok-second_at.field-0 in
    let fit : FitsSigned w64 first = search rules in
    let whole : to_z w64 (of_z w64 start) ≡ start = omega (arith, ints, c.in_ok-month_start.ensures.bound) in
    let n : at.nanosecond ≡ nanos_of_seconds first = c.in_ok-second_at.ensures.value ∙ ap nanos_of_seconds (to_z-of_z w64 first fit) in
    let local = days_from-local zone first dt c.in_ok-of.field-0 c.in_ok-of.ensures.year c.in_ok-of.ensures.shown in
    let later = c.in_ok-month_later.field-0 in
    let next = c.in_ok-next.next in
    let fits : FitsSigned w64 later = search rules in
    let ends : FitsSigned w64 next = search rules in
    let then = λ (r : Result ℤ ClockFault). and_then (days_between first) (and_then (second_of zone) r) in
    let one : Ok next ≡ second_of zone later = c.in_ok-next.ensures.value ∙ ap (second_of zone) (to_z-of_z w64 later fits) in
    let days : c.days_between.result ≡ days_between first next =
    c.days_between.ensures.value ∙ ap (λ (x : ℤ). days_between x (to_z w64 (of_z w64 next))) (to_z-of_z w64 first fit)
    ∙ ap (days_between first) (to_z-of_z w64 next ends) in
    days_counted_from zone (pos c.args.local.now.year) c.args.local.now.month start first at.nanosecond dt c.days_between.result c.in_ok-month_start.ensures.value
    (c.in_ok-first.ensures.value ∙ ap (second_of zone) whole) (subst IsTimestampNanos n at.in_range) n c.to_datetime-shown.ensures
    (days ∙ ap (and_then (days_between first)) one ∙ ap then c.in_ok-month_later.ensures.value ∙ local)
