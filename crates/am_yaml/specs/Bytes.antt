-- The bytes of a text in YAML, and what can be between its pieces.
use Rattle.std.specs.Prelude.{◌≡◌, ◌+◌, ◌-◌, ◌≤◌, ◌<◌, ℕ, suc, zero, List, Bool, true, false, ◌&&◌, ◌||◌, ◌==◌}
use Rattle.std.specs.Prelude.{fold, length, slice_index, slice_range, if◌then◌else◌}
use Rattle.am_yaml.specs.declared.bytes.Gap.{Gap}
use Rattle.am_yaml.specs.declared.bytes.Gap.TheVariants.{Apart, Joined, Comment, Broken}

-- a space or a tab
abbrev pub is_blank : ℕ → Bool
is_blank byte = byte == 32 || byte == 9

-- a blank or a line's end
abbrev pub is_space : ℕ → Bool
is_space byte = is_blank byte || byte == 10

-- one of `,` `[` `]` `{` `}`
abbrev pub is_flow_sign : ℕ → Bool
is_flow_sign byte = byte == 44 || byte == 91 || byte == 93 || byte == 123 || byte == 125

-- Between two pieces are blanks, line ends and comments, which begin with `#` behind a space, or where the text begins. What comes after a
-- byte: the gap goes on behind a space (Apart) or behind what is none (Joined), goes on within a comment, or is broken, since something
-- else was there.
abbrev pub gap_after : Gap → ℕ → Gap
gap_after Apart byte = if is_space byte then Apart else (if byte == 35 then Comment else Broken)
gap_after Joined byte = if is_space byte then Apart else Broken
gap_after Comment byte = if byte == 10 then Apart else Comment
gap_after Broken byte = Broken

abbrev pub is_whole : Gap → Bool
is_whole Apart = true
is_whole Joined = true
is_whole Comment = true
is_whole Broken = false

-- the bytes are a gap, behind a space or behind what is none
abbrev pub is_gap : Bool → List ℕ → Bool
is_gap apart bytes = is_whole (fold gap_after (if apart then Apart else Joined) bytes)

-- whether a text begins at an offset, or a space is before it
abbrev pub is_apart : List ℕ → ℕ → Bool
is_apart text at = at == 0 || is_space (slice_index text (at - 1))

-- from one offset of a text to another are only blanks, line ends and comments
pub record IsGap (text : List ℕ) (from to : ℕ) : Type 0 where
  pub order : from ≤ to
  pub within : to ≤ length text
  pub only : is_gap (is_apart text from) (slice_range text from to) ≡ true

-- blanks alone
abbrev pub are_blanks : List ℕ → Bool
are_blanks bytes = fold (λ all byte. all && is_blank byte) true bytes

-- how many bytes of its line are before an offset of a text
abbrev pub column_of : List ℕ → ℕ → ℕ
column_of text zero = 0
column_of text (suc at) = if slice_index text at == 10 then 0 else suc (column_of text at)

-- this byte is at an offset of a text, and a space or the text's end behind it
pub record IsSign (text : List ℕ) (byte at : ℕ) : Type 0 where
  pub within : at < length text
  pub here : slice_index text at ≡ byte
  pub alone : (at + 1 == length text || is_space (slice_index text (at + 1))) ≡ true
