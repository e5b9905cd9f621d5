-- Durations as texts, as Prometheus' configuration writes durations (`ParseDuration` of its common model).
use Rattle.std.specs.Prelude.{◌≡◌, ◌≢◌, ℕ, ◌+◌, ◌-◌, ◌*◌, ◌^◌, ◌<◌, ◌⊎◌, ◌↔◌, min, not, List, [], ◌∷◌, ◌++◌, length, map, sum_by, codes}
use Rattle.std.specs.Prelude.{Option, Some, None, Result, Ok, Err, ◌==◌, nat_le, option_and_then, if◌then◌else◌}
use Rattle.std.specs.Char.{is_ascii_digit}
use Rattle.std.specs.List.{AllByRecursion, flat_map, take_while}
use Rattle.std.specs.Option.{option_map, option_or}
use Rattle.std.specs.Str.{bytes_eq}
use Rattle.std.specs.Str.Parse.{IsNumeral, digits_value}
use Rattle.am_alerts.specs.declared.duration.TimeUnit.{TimeUnit}
use Rattle.am_alerts.specs.declared.duration.TimeUnit.TheVariants.{Year, Week, Day, Hour, Minute, Second, Millisecond}
use Rattle.am_alerts.specs.declared.duration.DurationFault.{DurationFault}
use Rattle.am_alerts.specs.declared.duration.DurationFault.TheVariants.{BadDuration, TooLong}
use Rattle.am_alerts.specs.declared.limits.TheConstants.{MAX_DURATION}

-- the units, in the order in which a text names them
abbrev pub time_units : List TimeUnit
time_units = Year ∷ Week ∷ Day ∷ Hour ∷ Minute ∷ Second ∷ Millisecond ∷ []

-- how a text names a unit
abbrev pub symbol_of : TimeUnit → List ℕ
symbol_of Year = codes "y"
symbol_of Week = codes "w"
symbol_of Day = codes "d"
symbol_of Hour = codes "h"
symbol_of Minute = codes "m"
symbol_of Second = codes "s"
symbol_of Millisecond = codes "ms"

-- how many milliseconds a unit has; a year is 365 days
abbrev pub millis_of : TimeUnit → ℕ
millis_of Year = 365 * 24 * 60 * 60 * 1000
millis_of Week = 7 * 24 * 60 * 60 * 1000
millis_of Day = 24 * 60 * 60 * 1000
millis_of Hour = 60 * 60 * 1000
millis_of Minute = 60 * 1000
millis_of Second = 1000
millis_of Millisecond = 1

-- the digits at the front of a text
abbrev pub front_digits : List ℕ → List ℕ
front_digits text = take_while is_ascii_digit text

-- what is behind the digits at the front of a text
abbrev pub behind_digits : List ℕ → List ℕ
behind_digits [] = []
behind_digits (b ∷ bs) = if is_ascii_digit b then behind_digits bs else b ∷ bs

-- what is behind a symbol, if the text begins with it
abbrev pub behind_symbol : List ℕ → List ℕ → Option (List ℕ)
behind_symbol [] text = Some text
behind_symbol (c ∷ cs) [] = None
behind_symbol (c ∷ cs) (b ∷ bs) = if c == b then behind_symbol cs bs else None

-- behind the last count is nothing: the value is 0 there, and there is none where text is left
abbrev pub value_at_end : List ℕ → Option ℕ
value_at_end [] = Some 0
value_at_end (b ∷ bs) = None

-- The text begins with one or more digits and this unit's symbol, and what is behind them has a value:
-- then the text's value is the number that the digits write times the unit, plus that value.
abbrev pub value_with : TimeUnit → (List ℕ → Option ℕ) → List ℕ → Option ℕ
value_with unit value_behind text =
    if length (front_digits text) == 0 then None
    else option_map (λ v. digits_value 10 (front_digits text) * millis_of unit + v)
    (option_and_then value_behind (behind_symbol (symbol_of unit) (behind_digits text)))

-- The value of a text of counts with these units, in their order, each at most once:
-- it begins with a count of the first unit, or it is a text of counts with the other units.
abbrev pub value_in : List TimeUnit → List ℕ → Option ℕ
value_in [] text = value_at_end text
value_in (unit ∷ units) text = option_or (value_with unit (value_in units) text) (value_in units text)

-- the value of a text of counts with units, which can be empty
unfoldable pub value_of_counts : List ℕ → Option ℕ
value_of_counts text = value_in time_units text

-- duration: the milliseconds that a text denotes, if it is one. It is `0`, or one or more counts with units.
abbrev pub duration_of : List ℕ → Option ℕ
duration_of [] = None
duration_of (b ∷ bs) = if bytes_eq (b ∷ bs) (codes "0") then Some 0 else value_of_counts (b ∷ bs)

-- a duration, which may not be above the greatest
abbrev pub within_limit : Option ℕ → Result ℕ DurationFault
within_limit None = Err BadDuration
within_limit (Some v) = if nat_le v MAX_DURATION then Ok v else Err TooLong

-- a part of a duration: the digits of its count, and its unit
pub record DurationPart : Type 0 where
  pub digits : List ℕ
  pub unit : TimeUnit

-- how a part is written
abbrev pub part_text : DurationPart → List ℕ
part_text part = part.digits ++ symbol_of part.unit

-- how many milliseconds a part has
abbrev pub part_millis : DurationPart → ℕ
part_millis part = digits_value 10 part.digits * millis_of part.unit

-- the units are those of the list, in its order, with some left out
abbrev pub AreSomeOf : List TimeUnit → List TimeUnit → Type 0
AreSomeOf all [] = Unit {0}
AreSomeOf [] (unit ∷ units) = ⊥
AreSomeOf (first ∷ all) (unit ∷ units) = ((unit ≡ first) × AreSomeOf all units) ⊎ AreSomeOf all (unit ∷ units)

-- the text is these parts, each with one or more digits and with units in the order of the list, and v is their sum
pub record IsSumOfParts (units : List TimeUnit) (parts : List DurationPart) (text : List ℕ) (v : ℕ) : Type 0 where
  pub counted : AllByRecursion (λ part. IsNumeral 10 part.digits) parts
  pub in_order : AreSomeOf units (map (λ part. part.unit) parts)
  pub written : text ≡ flat_map part_text parts
  pub summed : v ≡ sum_by part_millis parts

-- the text is `0`, or one or more parts
abbrev pub HasDuration : List ℕ → ℕ → Type 0
HasDuration text v =
    ((text ≡ codes "0") × (v ≡ 0)) ⊎ ((parts : List DurationPart) × (0 < length parts) × IsSumOfParts time_units parts text v)

-- a text is a duration of this value exactly where it is `0` and the value is 0, or it is parts and the value is their sum
abbrev pub DurationsAreSums : Type 0
DurationsAreSums = (text : List ℕ) (v : ℕ) → (duration_of text ≡ Some v) ↔ HasDuration text v

-- How a text is cut from the front: a count, the bytes up to the next digit, which name the unit, and the rest.

-- a number, or the greatest of 64 bits where it is above that
abbrev pub capped : ℕ → ℕ
capped n = min n (2 ^ 64 - 1)

-- the bytes up to the first digit
abbrev pub before_digit : List ℕ → List ℕ
before_digit text = take_while (λ b. not (is_ascii_digit b)) text

-- the text from its first digit on
abbrev pub from_digit : List ℕ → List ℕ
from_digit [] = []
from_digit (b ∷ bs) = if is_ascii_digit b then b ∷ bs else from_digit bs

-- the text begins with a count; behind it the symbol goes up to the next digit, and the rest begins there
pub record IsFirstPart (text : List ℕ) (count : ℕ) (symbol rest : List ℕ) : Type 0 where
  pub is_counted : front_digits text ≢ []
  pub counted : count ≡ capped (digits_value 10 (front_digits text))
  pub named : symbol ≡ before_digit (behind_digits text)
  pub left : rest ≡ from_digit (behind_digits text)

-- the first of the units that has this symbol, and the units behind it
abbrev pub unit_named : List ℕ → List TimeUnit → Option (TimeUnit × List TimeUnit)
unit_named symbol [] = None
unit_named symbol (unit ∷ units) = if bytes_eq (symbol_of unit) symbol then Some (unit, units) else unit_named symbol units
