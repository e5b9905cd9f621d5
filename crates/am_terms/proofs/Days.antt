-- The day so many days later.
use Rattle.std.proofs.Common.{◌≡◌, ◌≤◌, ◌<◌, ◌+◌, ◌-◌, ℕ, suc, Bool, true, false, if◌then◌else◌, ap, arith}
use Rattle.am_terms.specs.UtcDates.{DayData, day_after, days_in_month, next_day}
use Rattle.std.specs.Prelude.{nat_lt}

-- one day is gone
pub day_after-next : (days gone : ℕ) (d : DayData) → gone < days → day_after (days - gone) d ≡ day_after (days - (gone + 1)) (next_day d)
day_after-next days gone d more =
    let e : days - gone ≡ suc (days - (gone + 1)) = omega arith in
    ap (λ (k : ℕ). day_after k d) e

-- one of three days
year-chosen : (first second : Bool) (y : ℕ) (a b c : DayData) → a.year ≤ y → b.year ≤ y → c.year ≤ y
    → (if first then a else (if second then b else c)).year ≤ y
year-chosen true second y a b c p q r = p
year-chosen false true y a b c p q r = q
year-chosen false false y a b c p q r = r

-- the next day is in the next year at the latest
pub year-next_day : (d : DayData) → (next_day d).year ≤ d.year + 1
year-next_day d =
    year-chosen (nat_lt d.day (days_in_month d.year d.month)) (nat_lt d.month 12) (d.year + 1)
    (record { year = d.year; month = d.month; day = d.day + 1 })
    (record { year = d.year; month = d.month + 1; day = 1 })
    (record { year = d.year + 1; month = 1; day = 1 })
    (omega arith) (omega arith) (omega arith)
