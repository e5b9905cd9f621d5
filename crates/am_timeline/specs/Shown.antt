-- Shown: texts and label sets without characters that a terminal would take as a command.
use Rattle.std.specs.Prelude.{ℕ, ◌+◌, ◌/◌, ◌%◌, Bool, ◌&&◌, ◌||◌, ◌==◌, nat_lt, nat_le, List, [], ◌∷◌, ◌++◌, codes, if◌then◌else◌}
use Rattle.std.specs.Char.{encode_utf8}
use Rattle.std.specs.List.{flat_map, join_by}
use Rattle.std.specs.Str.{chars}
use Rattle.am_alerts.specs.declared.labels.Label.{Label}

-- whether a character is a control character: below U+0020, or from U+007F to U+009F
abbrev pub is_control : ℕ → Bool
is_control c = nat_lt c 32 || (nat_le 127 c && nat_lt c 160)

-- a digit below 16
abbrev pub hex_digit : ℕ → ℕ
hex_digit d = if nat_lt d 10 then 48 + d else 87 + d

-- a number below 256 in hexadecimal digits, without a zero before them
abbrev pub hex_text : ℕ → List ℕ
hex_text n = (if nat_lt n 16 then [] else hex_digit (n / 16) ∷ []) ++ hex_digit (n % 16) ∷ []

-- a character: `\`, `"` and a line feed as in the text of a label set, another control character by its number, as `\u{1b}`
abbrev pub char_shown : ℕ → List ℕ
char_shown c =
    if c == 92 then codes "\\\\"
    else (if c == 34 then codes "\\\""
    else (if c == 10 then codes "\\n"
    else (if is_control c then codes "\\u{" ++ hex_text c ++ codes "}" else encode_utf8 c)))

-- a text: each of its characters
abbrev pub text_shown : List ℕ → List ℕ
text_shown text = flat_map char_shown (chars text)

-- a label: its name, `="`, its value and `"`
abbrev pub label_shown : Label → List ℕ
label_shown l = l.name ++ codes "=\"" ++ text_shown l.value ++ codes "\""

-- a label set: `{`, its labels with `,` between them, and `}`
abbrev pub set_shown : List Label → List ℕ
set_shown labels = codes "{" ++ join_by label_shown (codes ",") labels ++ codes "}"

-- the label sets of these, with `, ` between them
abbrev pub sets_shown : {T : Type 0} → (T → List Label) → List T → List ℕ
sets_shown labels items = join_by (λ i. set_shown (labels i)) (codes ", ") items
