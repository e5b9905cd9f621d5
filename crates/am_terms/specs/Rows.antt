-- Rows: texts of times that were computed by hand.
use Rattle.std.specs.Prelude.{◌≡◌, codes}
use Rattle.am_terms.specs.UtcDates.{StartData, dated_text}
use Rattle.am_terms.specs.TimeFormatData.{column, counted, counted_text}

-- times counted from the start: the start itself, one with milliseconds, one with more than 99 hours, and one in its column
abbrev pub TimesAreCounted : Type 0
TimesAreCounted =
    (counted_text 0 ≡ codes "00:00:00") × (counted_text 14430001 ≡ codes "04:00:30.001") × (counted_text 1872345 ≡ codes "00:31:12.345")
    × (counted_text 360000010 ≡ codes "100:00:00.010") × (column counted 30000 ≡ codes "00:00:30      ")

-- half an hour before the last day of February of a leap year
abbrev pub late_february : StartData
late_february = record { day = record { year = 2028; month = 2; day = 28 }; milliseconds = 84600000 }

-- the last day of February of a century that begins with no leap year
abbrev pub century : StartData
century = record { day = record { year = 2100; month = 2; day = 28 }; milliseconds = 0 }

-- the last second of a year
abbrev pub year_end : StartData
year_end = record { day = record { year = 2026; month = 12; day = 31 }; milliseconds = 86399000 }

-- times as dates: over the ends of a day, of a month in a leap year and in another year, and of a year
abbrev pub TimesAreDated : Type 0
TimesAreDated =
    (dated_text late_february 0 ≡ codes "2028-02-28T23:30:00Z") × (dated_text late_february 1800000 ≡ codes "2028-02-29T00:00:00Z")
    × (dated_text late_february 88200345 ≡ codes "2028-03-01T00:00:00.345Z") × (dated_text century 86400000 ≡ codes "2100-03-01T00:00:00Z")
    × (dated_text year_end 1000 ≡ codes "2027-01-01T00:00:00Z")
