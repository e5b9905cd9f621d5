-- UtcDates: times as dates with times of day, in UTC (RFC 3339).
use Rattle.std.specs.Prelude.{ℕ, zero, suc, ◌+◌, ◌/◌, ◌%◌, Bool, not, ◌&&◌, ◌||◌, ◌==◌, nat_lt, List, [], ◌++◌, codes, if◌then◌else◌}
use Rattle.std.specs.Prelude.{◌≡◌, ◌*◌, pos, Ok}
use Rattle.jiff.specs.Words.{civil_nanos, parse_timestamp}
use Rattle.jiff.specs.Types.{DateTime}
use Rattle.am_terms.specs.TimeFormatData.{TimeFormatData, counted_text, two_digits, three_digits}

-- a day of the Gregorian calendar
pub record DayData : Type 0 where
  pub year : ℕ
  pub month : ℕ
  pub day : ℕ

-- the start of a rehearsal: its day, and how many milliseconds of that day are over
pub record StartData : Type 0 where
  pub day : DayData
  pub milliseconds : ℕ

-- a start is at this date and time of day, except for what is less than a millisecond
pub record IsStartAt (dt : DateTime) (start : StartData) : Type 0 where
  pub year : pos start.day.year ≡ dt.date.year
  pub month : start.day.month ≡ dt.date.month
  pub day : start.day.day ≡ dt.date.day
  pub time : start.milliseconds
      ≡ dt.time.hour * 3600000 + dt.time.minute * 60000 + dt.time.second * 1000 + dt.time.subsec_nanosecond / 1000000

-- a start is the instant that a text is read as, by its date and time of day in UTC
abbrev pub IsReadFrom : List ℕ → StartData → Type 0
IsReadFrom text start = (dt : DateTime) × (parse_timestamp text ≡ Ok (civil_nanos dt)) × IsStartAt dt start

-- every fourth year, but of the centuries only every fourth
abbrev pub is_leap_year : ℕ → Bool
is_leap_year y = (y % 4 == 0) && (not (y % 100 == 0) || (y % 400 == 0))

-- thirty days have September, April, June and November
abbrev pub days_in_month : ℕ → ℕ → ℕ
days_in_month y m =
    if m == 2 then (if is_leap_year y then 29 else 28)
    else (if (m == 4) || (m == 6) || (m == 9) || (m == 11) then 30 else 31)

-- the next day
abbrev pub next_day : DayData → DayData
next_day d =
    if nat_lt d.day (days_in_month d.year d.month) then record { year = d.year; month = d.month; day = d.day + 1 }
    else (if nat_lt d.month 12 then record { year = d.year; month = d.month + 1; day = 1 }
    else record { year = d.year + 1; month = 1; day = 1 })

-- the day so many days later
abbrev pub day_after : ℕ → DayData → DayData
day_after zero d = d
day_after (suc n) d = day_after n (next_day d)

-- how many milliseconds a time is behind the beginning of the start's day, except for the whole days of the time
abbrev pub behind_midnight : StartData → ℕ → ℕ
behind_midnight start at = start.milliseconds + at % 86400000

-- the day of a time
abbrev pub day_at : StartData → ℕ → DayData
day_at start at = day_after (at / 86400000 + behind_midnight start at / 86400000) start.day

-- how many milliseconds of its day are over at a time
abbrev pub time_at : StartData → ℕ → ℕ
time_at start at = behind_midnight start at % 86400000

-- a number with four digits at least
abbrev pub four_digits : ℕ → List ℕ
four_digits n = (if nat_lt n 1000 then codes "0" else []) ++ three_digits n

-- a day
unfoldable pub day_text : DayData → List ℕ
day_text d = four_digits d.year ++ codes "-" ++ two_digits d.month ++ codes "-" ++ two_digits d.day

-- a day and a time of day
unfoldable pub instant_text : DayData → ℕ → List ℕ
instant_text d time = day_text d ++ codes "T" ++ counted_text time ++ codes "Z"

-- a time
abbrev pub dated_text : StartData → ℕ → List ℕ
dated_text start at = instant_text (day_at start at) (time_at start at)

-- times as dates
abbrev pub dated : StartData → TimeFormatData
dated start = record { text = dated_text start; width = 24 }
