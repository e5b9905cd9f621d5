-- The pieces of a zone's clock, and where it has none, by what jiff says of the zone. Instants are in nanoseconds since 1970.
use Rattle.std.specs.Prelude.{◌≡◌, ◌⊎◌, ◌<◌, ◌≤ℤ◌, ℕ, ◌+◌, ◌-◌, ◌*◌, ◌/◌, min, Bool, true, ◌&&◌, nat_lt, List, Option, Some, None, Result}
use Rattle.std.specs.Prelude.{Ok, Err}
use Rattle.std.specs.Prelude.{ℤ, pos, neg_ℤ, ◌+ℤ◌, ◌-ℤ◌, ◌*ℤ◌, int_div, int_le, int_lt, unsigned_abs, MatchResult, if◌then◌else◌}
use Rattle.std.specs.Int.{is_in_range, is_positive}
use Rattle.std.specs.List.{All}
use Rattle.jiff.specs.Types.{DateTime, TimeZone}
use Rattle.jiff.specs.Words.{IsTimestampNanos, month_length, nanos_of_seconds, next_at, offset_at}
use Rattle.jiff_core.specs.Calendar.{days_from_civil}
use Rattle.jiff_tz.specs.declared.info.OffsetInfo.{OffsetInfo}
use Rattle.am_hours.specs.declared.clock.ClockFault.{ClockFault}
use Rattle.am_hours.specs.declared.clock.ClockFault.TheVariants.{OutOfRange, TooLong, BadZone, NoMemory}
use Rattle.am_hours.specs.declared.clock.TheConstants.{MAX_HORIZON}
use Rattle.am_hours.specs.declared.piece.Piece.{Piece}
use Rattle.am_hours.specs.Pieces.{are_in_row}
use Rattle.am_hours.specs.Reading.{and_then}
use Rattle.am_hours.specs.Showing.{IsShown, Shows, milliseconds_in}

-- the instant so many milliseconds behind a start, which is in milliseconds since 1970
abbrev pub instant_at : ℤ → ℕ → ℤ
instant_at start at = (start +ℤ pos at) *ℤ pos 1000000

-- the milliseconds of an instant, toward zero
abbrev pub milliseconds : ℤ → ℤ
milliseconds n = int_div n (pos 1000000)

-- the milliseconds from an instant to the next change of a zone, if there is one; it has to be later
abbrev pub until_next : Option (ℤ × OffsetInfo) → ℤ → Result (Option ℕ) ClockFault
until_next None n = Ok None
until_next (Some change) n =
    if int_le (milliseconds change.0) (milliseconds n) then Err BadZone
    else Ok (Some (unsigned_abs (milliseconds change.0 -ℤ milliseconds n)))

-- the milliseconds to the end of the month of a date and time, on a clock whose offset stays
abbrev pub left_in_month : DateTime → ℕ
left_in_month dt = (month_length dt.date + 1 - dt.date.day) * 86400000 - milliseconds_in dt

-- how long a clock stays as it is: to the end of the month, or to its next change if that is earlier
abbrev pub stays : ℕ → Option ℕ → ℕ
stays left None = left
stays left (Some change) = min left change

-- jiff has this instant (the test of `IsTimestampNanos`)
abbrev pub is_instant : ℤ → Bool
is_instant n = int_le (neg_ℤ (pos 377705023201000000000)) n && int_le n (pos 253402207200999999999)

-- the offset of a zone's clock at a second
abbrev pub offset_in : TimeZone → ℤ → Result ℤ ClockFault
offset_in zone second =
    if is_instant (nanos_of_seconds second) then Ok (offset_at zone (nanos_of_seconds second)) else Err OutOfRange

-- the second at which a zone's clock shows so many seconds since 1970, as Go's `time.Date` finds it: by the offset at the
-- second to which the offset at these seconds of UTC leads
abbrev pub second_of : TimeZone → ℤ → Result ℤ ClockFault
second_of zone local =
    and_then (λ guess. and_then (λ offset. Ok (local -ℤ offset)) (offset_in zone (local -ℤ guess))) (offset_in zone local)

-- the seconds since 1970 that a clock shows where a month begins
abbrev pub month_begin : ℤ → ℕ → ℤ
month_begin year month = days_from_civil year month 1 *ℤ pos 86400

-- the same, of a month that jiff has
abbrev pub month_start : ℤ → ℕ → Result ℤ ClockFault
month_start year month =
    if int_le year (pos 9999) && is_in_range 1 12 month && is_instant (nanos_of_seconds (month_begin year month))
    then Ok (month_begin year month) else Err OutOfRange

-- the seconds that it shows a month behind a date and a time of day, in milliseconds (`Time.AddDate(0, 1, 0)`): a day that
-- the month hasn't runs over into the next
abbrev pub month_later : ℤ → ℕ → ℕ → ℕ → Result ℤ ClockFault
month_later year month day time =
    and_then (λ start. Ok (start +ℤ pos ((day - 1) * 86400 + time / 1000)))
    (if nat_lt month 12 then month_start year (month + 1) else month_start (year +ℤ pos 1) 1)

-- the second at which a zone's clock shows the first midnight of a month
abbrev pub first_of : TimeZone → ℤ → ℕ → Result ℤ ClockFault
first_of zone year month =
    and_then (λ first. if is_instant (nanos_of_seconds first) then Ok first else Err OutOfRange)
    (and_then (second_of zone) (month_start year month))

-- the whole days from one second to another
abbrev pub days_between : ℤ → ℤ → Result ℕ ClockFault
days_between first next = if int_lt next first then Err OutOfRange else Ok (unsigned_abs (next -ℤ first) / 86400)

-- the whole days from a second at which a zone's clock shows this date and time to a month later
abbrev pub days_from : TimeZone → ℤ → DateTime → Result ℕ ClockFault
days_from zone first dt =
    if is_positive dt.date.year
    then and_then (days_between first) (and_then (second_of zone) (month_later dt.date.year dt.date.month dt.date.day (milliseconds_in dt)))
    else Err OutOfRange

-- the days of a month as Alertmanager counts them (timeinterval.daysInMonth): the whole days from its first midnight to a
-- month later on the clock
abbrev pub AreDaysOfMonth : TimeZone → ℤ → ℕ → Result ℕ ClockFault → Type 0
AreDaysOfMonth zone year month counted = MatchResult (first_of zone year month)
    (λ first. (dt : DateTime) × Shows zone (nanos_of_seconds first) dt × (counted ≡ days_from zone first dt)) (λ fault. counted ≡ Err fault)

-- a piece of a zone's clock: it begins with what the clock shows then, and ends with the month, where the clock changes or at
-- the horizon
pub record IsPieceOf (zone : TimeZone) (start : ℤ) (horizon : ℕ) (p : Piece) : Type 0 where
  pub dt : DateTime
  pub shows : Shows zone (instant_at start p.from) dt
  pub begins : IsShown dt p
  pub change : Option ℕ
  pub changes : until_next (next_at zone (instant_at start p.from)) (instant_at start p.from) ≡ Ok change
  pub ends : p.to ≡ min horizon (p.from + stays (left_in_month dt) change)
  pub counted : AreDaysOfMonth zone dt.date.year dt.date.month (Ok p.days_of_month_at)

-- why a zone's clock has no piece at an instant: jiff hasn't the instant, the clock doesn't show a year from 1 on, the days
-- of its month can't be counted; or a change isn't behind the instant
abbrev pub IsNoPiece : TimeZone → ℤ → ClockFault → Type 0
IsNoPiece zone n OutOfRange = (IsTimestampNanos n → ⊥)
    ⊎ ((dt : DateTime) × Shows zone n dt × ((dt.date.year ≤ℤ pos 0) ⊎ AreDaysOfMonth zone dt.date.year dt.date.month (Err OutOfRange)))
IsNoPiece zone n BadZone = until_next (next_at zone n) n ≡ Err BadZone
IsNoPiece zone n TooLong = ⊥
IsNoPiece zone n NoMemory = ⊥

-- pieces of a zone's clock lead to a time before the horizon at which it has none
pub record LeadsToNoPiece (zone : TimeZone) (start : ℤ) (horizon : ℕ) (fault : ClockFault) : Type 0 where
  pub pieces : List Piece
  pub at : ℕ
  pub row : are_in_row 0 pieces at ≡ true
  pub are : All (IsPieceOf zone start horizon) pieces
  pub before : at < horizon
  pub none : IsNoPiece zone (instant_at start at) fault

-- why a zone has no clock from a start to a horizon
abbrev pub IsNoClock : TimeZone → ℤ → ℕ → ClockFault → Type 0
IsNoClock zone start horizon TooLong = MAX_HORIZON < horizon
IsNoClock zone start horizon OutOfRange = LeadsToNoPiece zone start horizon OutOfRange
IsNoClock zone start horizon BadZone = LeadsToNoPiece zone start horizon BadZone
IsNoClock zone start horizon NoMemory = Unit {0}
