-- When an interval of Alertmanager's holds (timeinterval.TimeInterval.ContainsTime).
use Rattle.std.specs.Prelude.{ℕ, ◌≤◌, ◌-◌, min, Bool, true, ◌&&◌, nat_le, nat_lt, List, Option, None, Some}
use Rattle.std.specs.List.{list_any}
use Rattle.std.specs.Option.{option_map}
use Rattle.std.specs.Prelude.{Vec}
use Rattle.std.specs.Global.{Global}
use Rattle.am_hours.specs.declared.interval.MonthDay.{MonthDay}
use Rattle.am_hours.specs.declared.interval.MonthDay.TheVariants.{FromStart, BeforeLast}
use Rattle.am_hours.specs.declared.interval.DayRange.{DayRange}
use Rattle.am_hours.specs.declared.interval.InclusiveRange.{InclusiveRange}
use Rattle.am_hours.specs.declared.interval.TimeRange.{TimeRange}
use Rattle.am_hours.specs.declared.interval.Shown.{Shown}

-- an interval: lists of which any element may hold; where there is no list, anything does
pub record IntervalData : Type 0 where
  pub times : Option (List TimeRange)
  pub days_of_month : Option (List DayRange)
  pub months : Option (List InclusiveRange)
  pub weekdays : Option (List InclusiveRange)
  pub years : Option (List InclusiveRange)

-- the elements of a list, if there is one
abbrev pub items_of : {X : Type 0} → Option (Vec X Global) → Option (List X)
items_of xs = option_map (λ v. v.items) xs

-- the day of a month of so many days that an index names, from its start or back from its last day
abbrev pub index_in : ℕ → MonthDay → ℕ
index_in days (FromStart n) = n
index_in days (BeforeLast n) = days - n

-- a day is in a range of days of its month, which ends with the month at the latest
abbrev pub is_on : ℕ → ℕ → DayRange → Bool
is_on days day r =
    nat_le (index_in days r.first) days && nat_le (index_in days r.first) day && nat_le day (min (index_in days r.last) days)

-- a number is in a range, which counts both its ends
abbrev pub is_between : ℕ → InclusiveRange → Bool
is_between n r = nat_le r.first n && nat_le n r.last

-- a minute of the day is in a range, which leaves out its end
abbrev pub is_during : ℕ → TimeRange → Bool
is_during minute r = nat_le r.from minute && nat_lt minute r.to

-- there is no list, or an element passes the test
abbrev pub any_of : {X : Type 0} → (X → Bool) → Option (List X) → Bool
any_of test None = true
any_of test (Some xs) = list_any test xs

-- an interval holds on a date, at some times of it
abbrev pub is_on_date : IntervalData → Shown → Bool
is_on_date i m =
    any_of (is_on m.days_of_month_at m.day) i.days_of_month && any_of (is_between m.month) i.months
    && any_of (is_between m.weekday) i.weekdays && any_of (is_between m.year) i.years

-- an interval holds while a clock shows this
abbrev pub contains : IntervalData → Shown → Bool
contains i m = any_of (is_during m.minute) i.times && is_on_date i m

-- an index of a day: the 1st to the 31st, or none to 30 days before the last
abbrev pub IsGoodMonthDay : MonthDay → Type 0
IsGoodMonthDay (FromStart n) = (1 ≤ n) × (n ≤ 31)
IsGoodMonthDay (BeforeLast n) = n ≤ 30

-- both ends of a range of days are such days
abbrev pub IsGoodDayRange : DayRange → Type 0
IsGoodDayRange r = IsGoodMonthDay r.first × IsGoodMonthDay r.last
