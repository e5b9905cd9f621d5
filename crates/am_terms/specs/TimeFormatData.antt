-- TimeFormatData: how times are shown.
use Rattle.std.specs.Prelude.{ℕ, ◌-◌, ◌/◌, ◌%◌, ◌==◌, nat_lt, List, [], ◌++◌, length, codes, decimal, replicate, if◌then◌else◌}

-- the text of each time, and how wide their column is
pub record TimeFormatData : Type 0 where
  pub text : ℕ → List ℕ
  pub width : ℕ

-- a number with two digits at least
abbrev pub two_digits : ℕ → List ℕ
two_digits n = (if nat_lt n 10 then codes "0" else []) ++ decimal n

-- a number with three digits at least
abbrev pub three_digits : ℕ → List ℕ
three_digits n = (if nat_lt n 100 then codes "0" else []) ++ two_digits n

-- the part of a second behind it: nothing where it is zero
abbrev pub fraction_text : ℕ → List ℕ
fraction_text milliseconds = if milliseconds == 0 then [] else codes "." ++ three_digits milliseconds

-- a time counted from the start: hours, minutes and seconds
unfoldable pub counted_text : ℕ → List ℕ
counted_text at =
    two_digits (at / 3600000) ++ codes ":" ++ two_digits (at / 60000 % 60) ++ codes ":" ++ two_digits (at / 1000 % 60)
    ++ fraction_text (at % 1000)

-- times counted from the start
abbrev pub counted : TimeFormatData
counted = record { text = counted_text; width = 12 }

-- a text with blanks behind it, up to a width
abbrev pub padded_to : ℕ → List ℕ → List ℕ
padded_to width text = text ++ replicate (width - length text) 32

-- a time in its column
abbrev pub column : TimeFormatData → ℕ → List ℕ
column times at = padded_to times.width (times.text at) ++ codes "  "
