-- What the bytes of a scalar mean.
use Rattle.std.specs.Prelude.{◌≡◌, ◌+◌, ℕ, List, [], ◌∷◌, ◌++◌, Bool, true, false, not, ◌&&◌, ◌||◌, ◌==◌, Option, Some, None}
use Rattle.std.specs.Prelude.{option_and_then, fold, length, nat_lt, slice_index, slice_index_or, drop, if◌then◌else◌, codes, pos}
use Rattle.std.specs.Bool.{MatchBool}
use Rattle.std.specs.Char.{is_ascii_alphanumeric, is_ascii_digit, digit_value}
use Rattle.std.specs.Float.{binary64}
use Rattle.std.specs.Float.Ieee.{of_int}
use Rattle.std.specs.Float.Parse.{completes_number, parse_float, without_sign}
use Rattle.std.specs.Str.{bytes_eq}
use Rattle.std.specs.Str.Parse.{digits_value, signed_digits_value, without_leading_plus}
use Rattle.serde_json.specs.Data.{Data, Num, null, boolean, number, string, unsigned}
use Rattle.serde_json.specs.Find.{of_integer, of_float}
use Rattle.am_yaml.specs.Bytes.{is_space, is_flow_sign}
use Rattle.am_yaml.specs.declared.parser.Meaning.{Meaning}
use Rattle.am_yaml.specs.declared.scalars.Double.{Double}
use Rattle.am_yaml.specs.declared.scalars.Double.TheVariants.{Inside, Escaped, Ended, Wrong}
use Rattle.am_yaml.specs.declared.scalars.Ends.{Ends}
use Rattle.am_yaml.specs.declared.scalars.Ends.TheVariants.{NoEnd, OneEnd, MoreEnds}
use Rattle.am_yaml.specs.declared.scalars.Line.{Line}
use Rattle.am_yaml.specs.declared.scalars.Line.TheVariants.{Within, Spaces, Short}
use Rattle.am_yaml.specs.declared.scalars.Quote.{Quote}
use Rattle.am_yaml.specs.declared.scalars.Quote.TheVariants.{Closed, Open, Alone}
use Rattle.am_yaml.specs.declared.parser.Meaning.TheVariants.{Core, Flag, Named, Texts, Tagged}

-- A text of folded lines, as far as it was read: its words, what is between the last word and the next, and how many lines ended there.
pub record Words : Type 0 where
  pub text : List ℕ
  pub pending : List ℕ
  pub ends : Ends

-- Blanks at the ends and starts of lines don't count. A line's end is a space, and of more of them the first doesn't count.
abbrev pub pending_after : Ends → List ℕ → ℕ → List ℕ
pending_after NoEnd pending byte = if byte == 10 then 32 ∷ [] else pending ++ byte ∷ []
pending_after OneEnd pending byte = if byte == 10 then 10 ∷ [] else pending
pending_after MoreEnds pending byte = if byte == 10 then pending ++ 10 ∷ [] else pending

abbrev pub ends_after : Ends → ℕ → Ends
ends_after NoEnd byte = if byte == 10 then OneEnd else NoEnd
ends_after OneEnd byte = if byte == 10 then MoreEnds else OneEnd
ends_after MoreEnds byte = MoreEnds

abbrev pub words_after : Words → ℕ → Words
words_after words byte =
    if is_space byte
    then record { text = words.text; pending = pending_after words.ends words.pending byte; ends = ends_after words.ends byte }
    else record { text = words.text ++ words.pending ++ byte ∷ []; pending = []; ends = NoEnd }

abbrev pub no_words : Words
no_words = record { text = []; pending = []; ends = NoEnd }

-- the text of folded lines
abbrev pub folded : List ℕ → List ℕ
folded bytes = (fold words_after no_words bytes).text ++ (fold words_after no_words bytes).pending

-- The bytes between single quotes: two quotes are one. A quote alone breaks them.
pub record Pairs : Type 0 where
  pub found : List ℕ
  pub quote : Quote

abbrev pub found_after : Quote → List ℕ → ℕ → List ℕ
found_after Closed found byte = if byte == 39 then found else found ++ byte ∷ []
found_after Open found byte = found ++ 39 ∷ []
found_after Alone found byte = found

abbrev pub quote_after : Quote → ℕ → Quote
quote_after Closed byte = if byte == 39 then Open else Closed
quote_after Open byte = if byte == 39 then Closed else Alone
quote_after Alone byte = Alone

abbrev pub pairs_after : Pairs → ℕ → Pairs
pairs_after pairs byte = record { found = found_after pairs.quote pairs.found byte; quote = quote_after pairs.quote byte }

abbrev pub no_pairs : Pairs
no_pairs = record { found = []; quote = Closed }

-- the bytes behind a double quote end with the first one that isn't behind a backslash
abbrev pub double_after : Double → ℕ → Double
double_after Inside byte = if byte == 34 then Ended else (if byte == 92 then Escaped else Inside)
double_after Escaped byte = Inside
double_after Ended byte = Wrong
double_after Wrong byte = Wrong

abbrev pub is_ended : Double → Bool
is_ended Inside = false
is_ended Escaped = false
is_ended Ended = true
is_ended Wrong = false

abbrev pub closes : List ℕ → Bool
closes bytes = is_ended (fold double_after Inside bytes)

-- a single or a double quote
abbrev pub is_quote : ℕ → Bool
is_quote byte = byte == 39 || byte == 34

-- the sign of a literal or a folded block scalar
abbrev pub is_block_sign : ℕ → Bool
is_block_sign byte = byte == 124 || byte == 62

-- letters, digits, `_` and `-`
abbrev pub is_of_names : ℕ → Bool
is_of_names byte = is_ascii_alphanumeric byte || byte == 95 || byte == 45

abbrev pub are_of_names : List ℕ → Bool
are_of_names bytes = fold (λ all byte. all && is_of_names byte) true bytes

-- a byte that can't begin a plain scalar
abbrev pub is_reserved : ℕ → Bool
is_reserved byte =
    (byte == 35 || byte == 38 || byte == 42 || byte == 33 || byte == 124 || byte == 62)
    || (byte == 39 || byte == 34 || byte == 37 || byte == 64 || byte == 96)

-- a space, or what is read behind the end of a text
abbrev pub ends_word : ℕ → Bool
ends_word byte = is_space byte || byte == 0

-- A plain scalar can begin with this byte before another: with a dash, and outside of brackets with `?` or `:`, before a word.
abbrev pub can_begin : Bool → ℕ → ℕ → Bool
can_begin flow byte next =
    if byte == 45 then not (ends_word next) && not (flow && is_flow_sign next)
    else (if byte == 63 || byte == 58 then not flow && not (ends_word next)
    else not (is_reserved byte) && not (is_flow_sign byte) && not (ends_word byte))

-- A plain scalar may go on with a byte behind another: `: ` and ` #` end it, and between brackets also their signs and `?`.
abbrev pub can_follow : Bool → ℕ → ℕ → Bool
can_follow flow before byte =
    not (before == 58 && (is_space byte || (flow && is_flow_sign byte)))
    && not (is_space before && byte == 35) && not (flow && (is_flow_sign byte || byte == 63))

-- the last byte of a plain scalar, if each byte of it can be there
abbrev pub plain_after : Bool → Option ℕ → ℕ → Option ℕ
plain_after flow None byte = None
plain_after flow (Some before) byte = if can_follow flow before byte then Some byte else None

-- it may end with a byte before another: with no space, and with a colon only before a word
abbrev pub can_end : Bool → ℕ → Option ℕ → Bool
can_end flow next None = false
can_end flow next (Some last) = not (is_space last) && not (last == 58 && (ends_word next || (flow && is_flow_sign next)))

-- the bytes can be a plain scalar, between brackets or not, before a byte behind them
abbrev pub is_plain : Bool → ℕ → List ℕ → Bool
is_plain flow next bytes =
    can_begin flow (slice_index bytes 0) (slice_index_or bytes 1 next) && can_end flow next (fold (plain_after flow) (Some 0) bytes)

-- Each line but the first has only spaces, or begins with at least so many of them. What comes after a byte: within a line, behind so many
-- spaces at its start (which count up to the least number), or a line began with too few.
abbrev pub line_after : ℕ → Line → ℕ → Line
line_after least Within byte = if byte == 10 then Spaces 0 else Within
line_after least (Spaces count) byte =
    if byte == 10 then Spaces 0
    else (if nat_lt count least then (if byte == 32 then Spaces (count + 1) else Short) else Within)
line_after least Short byte = Short

abbrev pub is_deep : Line → Bool
is_deep Within = true
is_deep (Spaces count) = true
is_deep Short = false

abbrev pub is_indented : ℕ → List ℕ → Bool
is_indented least bytes = is_deep (fold (line_after least) Within bytes)

-- there is no line's end among the bytes
abbrev pub is_one_line : List ℕ → Bool
is_one_line bytes = fold (λ all byte. all && not (byte == 10)) true bytes

-- the text is one of these words
abbrev pub is_among : List (List ℕ) → List ℕ → Bool
is_among [] text = false
is_among (word ∷ words) text = bytes_eq word text || is_among words text

-- a plain scalar that says that there is no value
abbrev pub says_null : List ℕ → Bool
says_null text = is_among ([] ∷ codes "~" ∷ codes "null" ∷ codes "Null" ∷ codes "NULL" ∷ []) text

-- the words of the core schema for a flag, and those that YAML 1.1 has besides
abbrev pub is_true_word : List ℕ → Bool
is_true_word text = is_among (codes "true" ∷ codes "True" ∷ codes "TRUE" ∷ []) text

abbrev pub is_yes_word : List ℕ → Bool
is_yes_word text = is_among (codes "y" ∷ codes "Y" ∷ codes "yes" ∷ codes "Yes" ∷ codes "YES" ∷ []) text

abbrev pub is_on_word : List ℕ → Bool
is_on_word text = is_among (codes "on" ∷ codes "On" ∷ codes "ON" ∷ []) text

abbrev pub is_false_word : List ℕ → Bool
is_false_word text = is_among (codes "false" ∷ codes "False" ∷ codes "FALSE" ∷ []) text

abbrev pub is_no_word : List ℕ → Bool
is_no_word text = is_among (codes "n" ∷ codes "N" ∷ codes "no" ∷ codes "No" ∷ codes "NO" ∷ []) text

abbrev pub is_off_word : List ℕ → Bool
is_off_word text = is_among (codes "off" ∷ codes "Off" ∷ codes "OFF" ∷ []) text

-- the flags of the core schema, and where a flag is wanted those of YAML 1.1
abbrev pub says_true : Bool → List ℕ → Bool
says_true wanted text = is_true_word text || (wanted && (is_yes_word text || is_on_word text))

abbrev pub says_false : Bool → List ℕ → Bool
says_false wanted text = is_false_word text || (wanted && (is_no_word text || is_off_word text))

-- one decimal digit or more, and nothing else
abbrev pub is_whole : List ℕ → Bool
is_whole text = not (length text == 0) && fold (λ all byte. all && is_ascii_digit byte) true text

-- `0o` or `0x`, and one digit or more of its radix
abbrev pub has_radix : ℕ → ℕ → List ℕ → Bool
has_radix letter radix text =
    (slice_index text 0 == 48 && slice_index text 1 == letter)
    && (nat_lt 2 (length text) && fold (λ all byte. all && nat_lt (digit_value byte) radix) true (drop 2 text))

-- the text is a number in the core schema: digits with at most one point and perhaps an exponent, behind a sign or none, or `0o` or `0x`
-- and digits
abbrev pub is_number : List ℕ → Bool
is_number text = completes_number 0 (without_sign text) || (has_radix 111 8 text || has_radix 120 16 text)

-- The number that a text writes: an integer in plain decimal digits, behind a minus or not except `-0`, and else the nearest float.
abbrev pub number_of : List ℕ → Option Num
number_of text =
    if is_whole text then Some (unsigned (digits_value 10 (without_leading_plus text)))
    else (if (slice_index text 0 == 45 && is_whole (drop 1 text)) && not (bytes_eq text (codes "-0"))
    then Some (of_integer (signed_digits_value 10 text))
    else (if has_radix 111 8 text then of_float (of_int binary64 (pos (digits_value 8 (without_leading_plus (drop 2 text)))))
    else (if has_radix 120 16 text then of_float (of_int binary64 (pos (digits_value 16 (without_leading_plus (drop 2 text)))))
    else option_and_then of_float (parse_float binary64 text))))

-- where a flag is wanted
abbrev pub wants_flag : Meaning → Bool
wants_flag Flag = true
wants_flag Core = false
wants_flag Named = false
wants_flag Texts = false
wants_flag Tagged = false

-- the value is the number that the text writes
abbrev pub WritesNumber : List ℕ → Data → Type 0
WritesNumber text value = (n : Num) × (number_of text ≡ Some n) × (value ≡ number n)

-- what a plain scalar of this text means, by the core schema
abbrev pub IsCore : Bool → List ℕ → Data → Type 0
IsCore wanted text value =
    MatchBool (says_null text) (value ≡ null)
    (MatchBool (says_true wanted text) (value ≡ boolean true)
    (MatchBool (says_false wanted text) (value ≡ boolean false)
    (MatchBool (is_number text) (WritesNumber text value) (value ≡ string text))))

-- The value of a plain scalar: behind the tag `!!str` its text; below `match` and `match_re` its text, or null.
abbrev pub IsMeant : Meaning → List ℕ → Data → Type 0
IsMeant Core text value = IsCore false text value
IsMeant Flag text value = IsCore true text value
IsMeant Named text value = IsCore false text value
IsMeant Texts text value = value ≡ (if says_null text then null else string text)
IsMeant Tagged text value = value ≡ string text

-- what plain scalars mean in the value of a key
abbrev pub meaning_of : List ℕ → Meaning
meaning_of key =
    if is_among (codes "match" ∷ codes "match_re" ∷ []) key then Texts
    else (if is_among (codes "send_resolved" ∷ codes "continue" ∷ codes "smtp_require_tls" ∷ codes "smtp_force_implicit_tls"
    ∷ codes "require_tls" ∷ codes "force_implicit_tls" ∷ codes "follow_redirects" ∷ codes "enable_http2" ∷ codes "insecure_skip_verify"
    ∷ codes "proxy_from_environment" ∷ codes "short_fields" ∷ codes "link_names" ∷ codes "update_alerts"
    ∷ codes "disable_notifications" ∷ []) key then Flag
    else (if is_among (codes "labels" ∷ codes "firing" ∷ codes "resolved" ∷ []) key then Named
    else Core))

abbrev pub meaning_below : Meaning → List ℕ → Meaning
meaning_below Core key = meaning_of key
meaning_below Flag key = meaning_of key
meaning_below Named key = Named
meaning_below Texts key = Texts
meaning_below Tagged key = Tagged

-- what a plain scalar means behind a tag or none
abbrev pub meaning_at : Bool → Meaning → Meaning
meaning_at true meaning = Tagged
meaning_at false meaning = meaning
