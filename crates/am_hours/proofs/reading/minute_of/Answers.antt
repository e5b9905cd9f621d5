use Rattle.std.proofs.Common.{◌≡◌, ◌+◌, ◌*◌, inl, inr, ltb, true, false, length, get_or, Some, None, codes, sym, ap, ◌∙◌, rules, arith}
use Rattle.std.specs.Prelude.{◌&&◌, bytes_eq}
use Rattle.std.proofs.lemmas.Bool.{and_from, and_left, and_right, cond-false, cond-true, le-ltb, lt-ltb}
use Rattle.am_hours.specs.Reading.{minute_in}
use Rattle.am_hours.proofs.ClockTexts.{minute_in-clock}
use Rattle.am_hours.proofs.reading.minute_of.Goals as goal

pub returns-then-hours-gt23-clause-value : goal.returns-then-hours-gt23-clause-value
returns-then-hours-gt23-clause-value c =
    let bytes = c.as_bytes.result.now in
    let h = c.in_ok-hours.hours in
    let m = c.in_ok-minutes.minutes in
    let same : bytes ≡ c.args.text.now = c.as_bytes.ensures.value in
    let other : bytes_eq bytes (codes "24:00") ≡ false = ap (λ t. bytes_eq t (codes "24:00")) same ∙ (search rules) in
    let long : length bytes ≡ 5 = omega arith in
    let colon : get_or bytes 2 0 ≡ 58 = search rules in
    let late : (ltb h 24 && ltb m 60) ≡ false = elim c.then-hours-gt23.either [
      | inl l ↦ and_left (ltb h 24) (ltb m 60) (le-ltb h 24 (omega arith))
      | inr l ↦ and_right (ltb h 24) (ltb m 60) (le-ltb m 60 (omega arith))
    ] in
    sym (cond-false (ltb h 24 && ltb m 60) (Some (h * 60 + m)) None late)
    ∙ minute_in-clock bytes h m other long colon c.in_ok-hours.ensures.value c.in_ok-minutes.ensures.value ∙ ap minute_in same

pub returns-clause-value : goal.returns-clause-value
returns-clause-value c =
    let bytes = c.as_bytes.result.now in
    let h = c.in_ok-hours.hours in
    let m = c.in_ok-minutes.minutes in
    let same : bytes ≡ c.args.text.now = c.as_bytes.ensures.value in
    let other : bytes_eq bytes (codes "24:00") ≡ false = ap (λ t. bytes_eq t (codes "24:00")) same ∙ (search rules) in
    let long : length bytes ≡ 5 = omega arith in
    let colon : get_or bytes 2 0 ≡ 58 = search rules in
    let early : (ltb h 24 && ltb m 60) ≡ true =
    and_from (ltb h 24) (ltb m 60) (lt-ltb h 24 (omega arith)) (lt-ltb m 60 (omega arith)) in
    sym (cond-true (ltb h 24 && ltb m 60) (Some (h * 60 + m)) None early)
    ∙ minute_in-clock bytes h m other long colon c.in_ok-hours.ensures.value c.in_ok-minutes.ensures.value ∙ ap minute_in same
