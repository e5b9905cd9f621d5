-- The text between double quotes.
use Rattle.std.specs.Prelude.{◌≡◌, ◌+◌, ◌-◌, ◌*◌, ℕ, List, [], ◌++◌, ◌&&◌, ◌||◌, ◌==◌, Option, Some, None}
use Rattle.std.specs.Prelude.{fold, nat_lt, if◌then◌else◌}
use Rattle.std.specs.Char.{digit_value, encode_utf8}
use Rattle.am_yaml.specs.Scalars.{Words, no_words, words_after}
use Rattle.am_yaml.specs.declared.escapes.Escape.{Escape}
use Rattle.am_yaml.specs.declared.escapes.Escape.TheVariants.{Outside, Behind, Digits, Broken}
use Rattle.am_yaml.specs.declared.scalars.Ends.TheVariants.{NoEnd, OneEnd}

-- the character that a byte behind a backslash represents
abbrev pub control_of : ℕ → Option ℕ
control_of byte =
    if byte == 48 then Some 0
    else (if byte == 97 then Some 7
    else (if byte == 98 then Some 8
    else (if byte == 116 || byte == 9 then Some 9
    else (if byte == 110 then Some 10
    else (if byte == 118 then Some 11
    else (if byte == 102 then Some 12
    else (if byte == 114 then Some 13
    else (if byte == 101 then Some 27 else None))))))))

abbrev pub sign_of : ℕ → Option ℕ
sign_of byte =
    if byte == 32 || (byte == 34 || byte == 92) then Some byte
    else (if byte == 78 then Some 133
    else (if byte == 95 then Some 160
    else (if byte == 76 then Some 8232
    else (if byte == 80 then Some 8233 else control_of byte))))

-- how many hexadecimal digits of a character's code come behind a letter
abbrev pub digits_behind : ℕ → ℕ
digits_behind byte = if byte == 120 then 2 else (if byte == 117 then 4 else (if byte == 85 then 8 else 0))

-- the character of a code, which is no surrogate
abbrev pub character_of : ℕ → Option ℕ
character_of code = if nat_lt code 55296 then Some code else (if nat_lt 57343 code && nat_lt code 1114112 then Some code else None)

-- The lines so far, and how far an escape was read.
pub record Unescaped : Type 0 where
  pub words : Words
  pub escape : Escape

abbrev pub not_escaped : Unescaped
not_escaped = record { words = no_words; escape = Outside }

-- what is between the last word and the next is of the text
abbrev pub settled : Words → Words
settled words = record { text = words.text ++ words.pending; pending = []; ends = NoEnd }

-- a line's end that is nothing
abbrev pub skipped : Words → Words
skipped words = record { text = words.text; pending = []; ends = OneEnd }

abbrev pub with_character : Words → ℕ → Words
with_character words code = record { text = words.text ++ encode_utf8 code; pending = words.pending; ends = words.ends }

-- behind a byte that is in no escape
abbrev pub outside_after : Words → ℕ → Unescaped
outside_after words byte =
    if byte == 92 then record { words = settled words; escape = Behind } else record { words = words_after words byte; escape = Outside }

-- behind a letter that has digits
abbrev pub digits_after : Words → ℕ → Unescaped
digits_after words byte =
    if nat_lt 0 (digits_behind byte) then record { words = words; escape = Digits (digits_behind byte) 0 }
    else record { words = words; escape = Broken }

abbrev pub sign_after : Words → ℕ → Option ℕ → Unescaped
sign_after words byte (Some code) = record { words = with_character words code; escape = Outside }
sign_after words byte None = digits_after words byte

-- Behind a byte after a backslash. A line's end there is nothing, and further ones are line ends.
abbrev pub behind_after : Words → ℕ → Unescaped
behind_after words byte =
    if byte == 10 then record { words = skipped words; escape = Outside }
    else sign_after words byte (sign_of byte)

-- behind the last digit of a code
abbrev pub ended_after : Words → Option ℕ → Unescaped
ended_after words (Some code) = record { words = with_character words code; escape = Outside }
ended_after words None = record { words = words; escape = Broken }

-- behind a digit, of which so many were left
abbrev pub code_after : Words → ℕ → ℕ → Unescaped
code_after words left code =
    if nat_lt 1 left then record { words = words; escape = Digits (left - 1) code } else ended_after words (character_of code)

abbrev pub digit_after : Words → ℕ → ℕ → ℕ → Unescaped
digit_after words left code byte =
    if nat_lt code 1114112 && nat_lt (digit_value byte) 16 then code_after words left (code * 16 + digit_value byte)
    else record { words = words; escape = Broken }

abbrev pub at_escape : Escape → Words → ℕ → Unescaped
at_escape Outside words byte = outside_after words byte
at_escape Behind words byte = behind_after words byte
at_escape (Digits left code) words byte = digit_after words left code byte
at_escape Broken words byte = record { words = words; escape = Broken }

abbrev pub unescaped_after : Unescaped → ℕ → Unescaped
unescaped_after unescaped byte = at_escape unescaped.escape unescaped.words byte

abbrev pub unescaped : List ℕ → Unescaped
unescaped bytes = fold unescaped_after not_escaped bytes

-- the text of bytes whose lines are folded and whose escapes end
pub record IsUnescaped (bytes found : List ℕ) : Type 0 where
  pub whole : (unescaped bytes).escape ≡ Outside
  pub is : found ≡ (unescaped bytes).words.text ++ (unescaped bytes).words.pending
