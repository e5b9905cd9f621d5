-- What a zone's clock shows where a piece begins.
use Rattle.std.specs.Prelude.{◌≡◌, ℕ, ◌+◌, ◌*◌, ◌/◌, ◌%◌, ℤ, pos, ◌+ℤ◌, ◌*ℤ◌}
use Rattle.jiff.specs.Types.{DateTime, TimeZone}
use Rattle.jiff.specs.Words.{civil_nanos, nanos_of_seconds, offset_at, weekday_of}
use Rattle.am_hours.specs.declared.local.LocalTime.{LocalTime}
use Rattle.am_hours.specs.declared.piece.Piece.{Piece}

-- the milliseconds from midnight of a date and time
abbrev pub milliseconds_in : DateTime → ℕ
milliseconds_in dt =
    dt.time.hour * 3600000 + dt.time.minute * 60000 + dt.time.second * 1000 + dt.time.subsec_nanosecond / 1000000

-- a piece begins at this date and time, except for what is less than a millisecond
pub record IsShown (dt : DateTime) (p : Piece) : Type 0 where
  pub year : pos p.year ≡ dt.date.year
  pub month : p.month ≡ dt.date.month
  pub day : p.day ≡ dt.date.day
  pub weekday : p.weekday ≡ (weekday_of dt.date + 1) % 7
  pub time : p.time ≡ milliseconds_in dt

-- the same of a local time
pub record IsLocal (dt : DateTime) (local : LocalTime) : Type 0 where
  pub year : pos local.year ≡ dt.date.year
  pub month : local.month ≡ dt.date.month
  pub day : local.day ≡ dt.date.day
  pub weekday : local.weekday ≡ (weekday_of dt.date + 1) % 7
  pub time : local.time ≡ milliseconds_in dt

-- a zone's clock shows a date and time at an instant, in nanoseconds since 1970
abbrev pub Shows : TimeZone → ℤ → DateTime → Type 0
Shows zone n dt = civil_nanos dt ≡ n +ℤ nanos_of_seconds (offset_at zone n)

-- a piece, so many milliseconds behind a start (in milliseconds since 1970), begins with what a zone's clock shows then
abbrev pub BeginsAsShown : TimeZone → ℤ → Piece → Type 0
BeginsAsShown zone start p = (dt : DateTime) × Shows zone ((start +ℤ pos p.from) *ℤ pos 1000000) dt × IsShown dt p
