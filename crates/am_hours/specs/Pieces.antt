-- Stretches of a local clock: each within one month and at one offset from UTC.
use Rattle.std.specs.Prelude.{ℕ, ◌+◌, ◌-◌, ◌*◌, ◌/◌, ◌%◌, ◌==◌, Bool, ◌&&◌, nat_le, nat_lt, List, [], ◌∷◌, length, Option, None, Some}
use Rattle.std.specs.List.{list_any, sum_by}
use Rattle.am_hours.specs.declared.interval.TimeRange.{TimeRange}
use Rattle.am_hours.specs.declared.interval.Shown.{Shown}
use Rattle.am_hours.specs.declared.piece.Piece.{Piece}
use Rattle.am_hours.specs.Intervals.{IntervalData, contains}

-- a piece holds a time
abbrev pub is_in : Piece → ℕ → Bool
is_in p t = nat_le p.from t && nat_lt t p.to

-- the milliseconds from the midnight before a piece to a time of the piece, on the local clock
abbrev pub local_at : Piece → ℕ → ℕ
local_at p t = p.time + (t - p.from)

-- the days from the first of a piece to a time of the piece
abbrev pub day_at : Piece → ℕ → ℕ
day_at p t = local_at p t / 86400000

-- the minute of the day at a time of a piece
abbrev pub minute_at : Piece → ℕ → ℕ
minute_at p t = local_at p t % 86400000 / 60000

-- what the clock shows so many days after the first of a piece, at a minute
abbrev pub shown_on : Piece → ℕ → ℕ → Shown
shown_on p day minute = record {
  minute = minute;
  day = p.day + day;
  month = p.month;
  weekday = (p.weekday + day) % 7;
  year = p.year;
  days_of_month_at = p.days_of_month_at;
}

-- what the clock shows at a time of a piece
abbrev pub shown : Piece → ℕ → Shown
shown p t = shown_on p (day_at p t) (minute_at p t)

-- a piece isn't empty, begins within a day, and stays within the calendar's numbers
abbrev pub is_sound : Piece → Bool
is_sound p =
    nat_lt p.from p.to && nat_le p.to 1000000000000000 && nat_lt p.time 86400000 && nat_le p.day 31 && nat_lt p.weekday 7

-- how many days a piece is on, at most
abbrev pub days_in : Piece → ℕ
days_in p = (p.time + (p.to - p.from)) / 86400000 + 1

-- how many ranges of minutes there are: the whole day where there is no list
abbrev pub ranges_in : Option (List TimeRange) → ℕ
ranges_in None = 1
ranges_in (Some times) = length times

-- how many spans an interval has on pieces, at most: its ranges, and each of them on each day
abbrev pub most_spans : IntervalData → List Piece → ℕ
most_spans i pieces = ranges_in i.times + sum_by (λ p. days_in p * ranges_in i.times) pieces

-- pieces follow each other from one time to another, without a gap
abbrev pub are_in_row : ℕ → List Piece → ℕ → Bool
are_in_row from [] to = from == to
are_in_row from (p ∷ pieces) to = (p.from == from) && is_sound p && are_in_row p.to pieces to

-- an interval holds at a time, by the clock of the piece that holds the time
abbrev pub contains_at : IntervalData → List Piece → ℕ → Bool
contains_at i pieces t = list_any (λ p. is_in p t && contains i (shown p t)) pieces

-- a clock: its pieces, and the time at which it ends
pub record ClockData : Type 0 where
  pub pieces : List Piece
  pub horizon : ℕ
