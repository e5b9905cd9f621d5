-- The text of a literal or folded block scalar.
use Rattle.std.specs.Prelude.{◌+◌, ◌-◌, ℕ, List, [], ◌∷◌, ◌++◌, Bool, true, false, not, ◌&&◌, ◌||◌, ◌==◌}
use Rattle.std.specs.Prelude.{fold, drop, length, nat_le, nat_lt, if◌then◌else◌}
use Rattle.am_yaml.specs.Bytes.{is_blank}
use Rattle.am_yaml.specs.declared.block_text.Part.{Part}
use Rattle.am_yaml.specs.declared.block_text.Part.TheVariants.{Aside, First, Further, LineEnd}
use Rattle.am_yaml.specs.declared.block_text.InBlock.{InBlock}
use Rattle.am_yaml.specs.declared.block_text.InBlock.TheVariants.{Header, Indent, Text}

-- a sign that says which ends of the last lines are of the text: all or none
abbrev pub is_chomp : ℕ → Bool
is_chomp byte = byte == 43 || byte == 45

-- a digit that says how far lines are indented
abbrev pub is_depth : ℕ → Bool
is_depth byte = nat_le 49 byte && nat_le byte 57

-- Behind `|` or `>` can be one of each, in any order. How many they are by the next two bytes:
abbrev pub signs_in : ℕ → ℕ → ℕ
signs_in first second =
    if is_chomp first then (if is_depth second then 2 else 1)
    else (if is_depth first then (if is_chomp second then 2 else 1) else 0)

-- the one that says which ends count, or 0
abbrev pub chomp_in : ℕ → ℕ → ℕ
chomp_in first second = if is_chomp first then first else (if is_depth first && is_chomp second then second else 0)

-- the digit, or 0
abbrev pub depth_in : ℕ → ℕ → ℕ
depth_in first second = if is_depth first then first else (if is_chomp first && is_depth second then second else 0)

-- where the next byte is: in the line of the signs, behind so many spaces of an indentation, or in a line's text
abbrev pub place_after : ℕ → InBlock → ℕ → InBlock
place_after indent Header byte = if byte == 10 then Indent 0 else Header
place_after indent (Indent count) byte = if byte == 10 then Indent 0 else (if nat_lt count indent then Indent (count + 1) else Text)
place_after indent Text byte = if byte == 10 then Indent 0 else Text

-- what a byte is: no part of the text, the first byte of a line's text, a further one, or a line's end
abbrev pub part_of : ℕ → InBlock → ℕ → Part
part_of indent Header byte = Aside
part_of indent (Indent count) byte = if byte == 10 then LineEnd else (if nat_lt count indent then Aside else First)
part_of indent Text byte = if byte == 10 then LineEnd else Further

-- The text so far, the ends of lines behind it, whether a line had text, whether the last such line begins with a blank, and whether the
-- first one does.
pub record Lines : Type 0 where
  pub place : InBlock
  pub text : List ℕ
  pub ends : List ℕ
  pub has_text : Bool
  pub is_spaced : Bool
  pub is_first_spaced : Bool

abbrev pub no_lines : Lines
no_lines = record { place = Header; text = []; ends = []; has_text = false; is_spaced = false; is_first_spaced = false }

-- What is between two lines with text are the ends of lines. In a folded text, where neither line begins with a blank, it is a space for
-- one end, and else the first end doesn't count.
abbrev pub between : Bool → List ℕ → List ℕ
between folds ends = if folds then (if nat_lt 1 (length ends) then drop 1 ends else 32 ∷ []) else ends

abbrev pub folds_before : Bool → Lines → ℕ → Bool
folds_before folded lines byte = folded && (lines.has_text && (not lines.is_spaced && not (is_blank byte)))

abbrev pub lines_with : Bool → Lines → InBlock → Part → ℕ → Lines
lines_with folded lines place Aside byte = record {
  place = place;
  text = lines.text;
  ends = lines.ends;
  has_text = lines.has_text;
  is_spaced = lines.is_spaced;
  is_first_spaced = lines.is_first_spaced;
}
lines_with folded lines place First byte = record {
  place = place;
  text = lines.text ++ between (folds_before folded lines byte) lines.ends ++ byte ∷ [];
  ends = [];
  has_text = true;
  is_spaced = is_blank byte;
  is_first_spaced = if lines.has_text then lines.is_first_spaced else is_blank byte;
}
lines_with folded lines place Further byte = record {
  place = place;
  text = lines.text ++ byte ∷ [];
  ends = lines.ends;
  has_text = lines.has_text;
  is_spaced = lines.is_spaced;
  is_first_spaced = lines.is_first_spaced;
}
lines_with folded lines place LineEnd byte = record {
  place = place;
  text = lines.text;
  ends = lines.ends ++ 10 ∷ [];
  has_text = lines.has_text;
  is_spaced = lines.is_spaced;
  is_first_spaced = lines.is_first_spaced;
}

abbrev pub lines_after : Bool → ℕ → Lines → ℕ → Lines
lines_after folded indent lines byte = lines_with folded lines (place_after indent lines.place byte) (part_of indent lines.place byte) byte

-- the lines of these bytes, which begin with the end of the line of the signs
abbrev pub lines_of : Bool → ℕ → List ℕ → Lines
lines_of folded indent bytes = fold (lines_after folded indent) no_lines bytes

-- Of the ends of the last lines all are of the text, or none, or one behind the last line with text.
abbrev pub ends_by : ℕ → Lines → List ℕ
ends_by sign lines =
    if sign == 43 then lines.ends
    else (if (not (sign == 45) && lines.has_text) && not (length lines.ends == 0) then 10 ∷ [] else [])

abbrev pub text_of : ℕ → Lines → List ℕ
text_of sign lines = lines.text ++ ends_by sign lines

-- The digit counts from the floor of what is around. With none the first line with text shows how far lines are indented: it doesn't
-- begin with a further blank.
abbrev pub is_indent_by : ℕ → ℕ → ℕ → Lines → Bool
is_indent_by digit floor indent lines = if digit == 0 then not lines.is_first_spaced else indent == (floor - 1) + (digit - 48)
