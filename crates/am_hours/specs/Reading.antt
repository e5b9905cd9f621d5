-- What the texts of an interval mean, as Alertmanager reads them (the UnmarshalYAML functions of its package timeinterval):
-- the range, or the first fault. An end of a range is read after the form of the text, the first end before the last.
use Rattle.std.specs.Prelude.{ℕ, ◌+◌, ◌*◌, ◌^◌, Bool, ◌&&◌, ◌==◌, nat_le, nat_lt, List, [], ◌∷◌, length, take, drop, slice_index, position}
use Rattle.std.specs.Prelude.{codes}
use Rattle.std.specs.Prelude.{ℤ, pos, negsuc, ◌+ℤ◌, int_lt, unsigned_abs, Option, Some, None, Result, Ok, Err, ok_or, option_and_then}
use Rattle.std.specs.Prelude.{option_map, if◌then◌else◌}
use Rattle.std.specs.Int.{is_in_range, is_negative, is_positive}
use Rattle.std.specs.List.{slice_split}
use Rattle.std.specs.Option.{option_or}
use Rattle.std.specs.Str.{all_ascii_digits, bytes_eq, str_eq_ignore_ascii_case}
use Rattle.std.specs.Str.Parse.{digits_value, signed_digits_value, without_leading_sign}
use Rattle.am_hours.specs.declared.interval.MonthDay.{MonthDay}
use Rattle.am_hours.specs.declared.interval.MonthDay.TheVariants.{FromStart, BeforeLast}
use Rattle.am_hours.specs.declared.interval.DayRange.{DayRange}
use Rattle.am_hours.specs.declared.interval.InclusiveRange.{InclusiveRange}
use Rattle.am_hours.specs.declared.interval.TimeRange.{TimeRange}
use Rattle.am_hours.specs.declared.reading.RangeFault.{RangeFault}
use Rattle.am_hours.specs.declared.reading.RangeFault.TheVariants.{BadForm, BadWeekday, BadDay, BadMonth, BadYear, BadTime, EndBeforeStart}
use Rattle.am_hours.specs.declared.reading.RangeFault.TheVariants.{EndFromStart}

-- a colon: what is between the ends of a range, and between hours and minutes
abbrev pub is_colon : ℕ → Bool
is_colon b = b == 58

-- what is read from a text, and then what that gives; a fault ends the reading
abbrev pub and_then : {X Y Fault : Type 0} → (X → Result Y Fault) → Result X Fault → Result Y Fault
and_then f (Ok x) = f x
and_then f (Err fault) = Err fault

-- the ends of a range that has these parts between its colons: one part is both ends, and more than two are no range
abbrev pub ends_among : List (List ℕ) → Result (List ℕ × List ℕ) RangeFault
ends_among [] = Err BadForm
ends_among (one ∷ []) = Ok (one, one)
ends_among (first ∷ last ∷ []) = Ok (first, last)
ends_among (first ∷ last ∷ more ∷ parts) = Err BadForm

-- the texts of the ends of a range
abbrev pub ends_of : List ℕ → Result (List ℕ × List ℕ) RangeFault
ends_of text = ends_among (slice_split is_colon text)

-- a range: the texts of its ends, what each of them means, and the range from the one to the other
abbrev pub range_of : {X Y : Type 0} → (List ℕ → Result X RangeFault) → (X → X → Result Y RangeFault) → List ℕ → Result Y RangeFault
range_of end_in range_from text =
    and_then (λ ends. and_then (λ first. and_then (λ last. range_from first last) (end_in ends.1)) (end_in ends.0)) (ends_of text)

-- the index of a text among names, in either case of its letters
abbrev pub index_among : List (List ℕ) → List ℕ → Option ℕ
index_among names text = position (str_eq_ignore_ascii_case text) names

-- a number of 64 bits, from -2^63 to 2^63 - 1: `negsuc n` is -(n + 1)
abbrev pub has_64_bits : ℤ → Bool
has_64_bits (pos n) = nat_lt n (2 ^ 63)
has_64_bits (negsuc n) = nat_lt n (2 ^ 63)

-- one or more digits behind a sign or none, of a number of 64 bits
abbrev pub is_number : List ℕ → Bool
is_number text =
    nat_lt 0 (length (without_leading_sign text)) && all_ascii_digits (without_leading_sign text)
    && has_64_bits (signed_digits_value 10 text)

-- the whole number that a text writes (strconv.Atoi)
abbrev pub number_in : List ℕ → Option ℤ
number_in text = if is_number text then Some (signed_digits_value 10 text) else None

-- a number, or 0 for one below it
abbrev pub or_zero : ℤ → ℕ
or_zero (pos n) = n
or_zero (negsuc n) = 0

-- the range from one number to another. It begins with 0 where it would begin earlier, which is no month and no year.
abbrev pub numbers_from : ℤ → ℤ → Result InclusiveRange RangeFault
numbers_from first last = if int_lt last first then Err EndBeforeStart else Ok (record { first = or_zero first; last = or_zero last })

-- the range from one index to another
abbrev pub indexes_from : ℕ → ℕ → Result InclusiveRange RangeFault
indexes_from first last = if nat_lt last first then Err EndBeforeStart else Ok (record { first = first; last = last })

-- the days of the week, from the index 0
abbrev pub weekday_names : List (List ℕ)
weekday_names =
    codes "sunday" ∷ codes "monday" ∷ codes "tuesday" ∷ codes "wednesday" ∷ codes "thursday" ∷ codes "friday" ∷ codes "saturday" ∷ []

-- the months: the first of them is 1
abbrev pub month_names : List (List ℕ)
month_names =
    codes "january" ∷ codes "february" ∷ codes "march" ∷ codes "april" ∷ codes "may" ∷ codes "june" ∷ codes "july" ∷ codes "august"
    ∷ codes "september" ∷ codes "october" ∷ codes "november" ∷ codes "december" ∷ []

-- a day of the week, by its name
abbrev pub weekday_in : List ℕ → Result ℕ RangeFault
weekday_in text = ok_or (index_among weekday_names text) BadWeekday

-- a month, by its name or as a number
abbrev pub month_in : List ℕ → Result ℤ RangeFault
month_in text = ok_or (option_or (option_map (λ index. pos (index + 1)) (index_among month_names text)) (number_in text)) BadMonth

-- a year
abbrev pub year_in : List ℕ → Result ℤ RangeFault
year_in text = ok_or (number_in text) BadYear

-- the days of the week that a text means
abbrev pub weekdays_of : List ℕ → Result InclusiveRange RangeFault
weekdays_of text = range_of weekday_in indexes_from text

-- the months that a text means
abbrev pub months_of : List ℕ → Result InclusiveRange RangeFault
months_of text = range_of month_in numbers_from text

-- the years that a text means
abbrev pub years_of : List ℕ → Result InclusiveRange RangeFault
years_of text = range_of year_in numbers_from text

-- a day of the month: 1 to 31, or -31 to -1 from its end
abbrev pub day_in : List ℕ → Result ℤ RangeFault
day_in text = ok_or (option_and_then (λ day. if is_in_range 1 31 (unsigned_abs day) then Some day else None) (number_in text)) BadDay

-- where such a day is: -1 is the last, and `negsuc n` is -(n + 1)
abbrev pub month_day : ℤ → MonthDay
month_day (pos n) = FromStart n
month_day (negsuc n) = BeforeLast n

-- where it is in a month of 28 days, as Alertmanager compares it: a day from the end is one earlier than it would be
abbrev pub in_short_month : ℤ → ℤ
in_short_month day = if is_negative day then pos 28 +ℤ day else day

-- the range from one day to another
abbrev pub days_from : ℤ → ℤ → Result DayRange RangeFault
days_from first last =
    if is_negative first && is_positive last then Err EndFromStart
    else if int_lt (in_short_month last) (in_short_month first) then Err EndBeforeStart
    else Ok (record { first = month_day first; last = month_day last })

-- the days of the month that a text means
abbrev pub days_of : List ℕ → Result DayRange RangeFault
days_of text = range_of day_in days_from text

-- the number that digits write
abbrev pub digits_in : List ℕ → Option ℕ
digits_in text = if all_ascii_digits text then Some (digits_value 10 text) else None

-- the minutes from midnight of an hour and a minute, if there are such
abbrev pub minute_at : Option ℕ → Option ℕ → Option ℕ
minute_at hours minutes =
    option_and_then (λ h. option_and_then (λ m. if nat_lt h 24 && nat_lt m 60 then Some (h * 60 + m) else None) minutes) hours

-- the minutes from midnight that a text means: of `24:00`, or of HH:MM before it
abbrev pub minute_in : List ℕ → Option ℕ
minute_in text =
    if bytes_eq text (codes "24:00") then Some 1440
    else if (length text == 5) && is_colon (slice_index text 2) then minute_at (digits_in (take 2 text)) (digits_in (drop 3 text))
    else None

-- the same, with the fault of a text that means none
abbrev pub time_in : List ℕ → Result ℕ RangeFault
time_in text = ok_or (minute_in text) BadTime

-- the range from one minute of the day to another, which leaves out its end
abbrev pub minutes_from : ℕ → ℕ → Result TimeRange RangeFault
minutes_from from to = if nat_le to from then Err EndBeforeStart else Ok (record { from = from; to = to })

-- the times of day that two texts mean
abbrev pub times_of : List ℕ → List ℕ → Result TimeRange RangeFault
times_of from to = and_then (λ first. and_then (λ last. minutes_from first last) (time_in to)) (time_in from)
