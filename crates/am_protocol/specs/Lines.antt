-- Lines: the lines of an input, and what is kept of one as its parts come.
use Rattle.std.specs.Prelude.{◌≡◌, ◌<◌, ◌≤◌, ◌==◌, ℕ, Bool, true, false, IsTrue, List, [], ◌∷◌, ◌++◌, if◌then◌else◌, length}
use Rattle.am_json.specs.declared.transfer.TheConstants.{MAX_INPUT}
use Rattle.am_protocol.specs.declared.lines.Line.{Line}
use Rattle.am_protocol.specs.declared.lines.LineRead.{LineRead}
use Rattle.am_protocol.specs.declared.lines.LineRead.TheVariants.{Complete, TooLong, NoMemory, End}

-- what is behind the last line feed is a line, unless it is nothing
abbrev pub last_line : List ℕ → List (List ℕ)
last_line [] = []
last_line (b ∷ line) = (b ∷ line) ∷ []

-- the lines of these bytes, where the first of them has begun with this
abbrev pub lines_from : List ℕ → List ℕ → List (List ℕ)
lines_from line [] = last_line line
lines_from line (b ∷ bytes) = if b == 10 then line ∷ lines_from [] bytes else lines_from (line ++ b ∷ []) bytes

-- the lines of an input, without their line feeds
abbrev pub lines_of : List ℕ → List (List ℕ)
lines_of bytes = lines_from [] bytes

-- the whole lines of these bytes, where the first of them has begun with this
abbrev pub whole_lines_from : List ℕ → List ℕ → List (List ℕ)
whole_lines_from line [] = []
whole_lines_from line (b ∷ bytes) = if b == 10 then line ∷ whole_lines_from [] bytes else whole_lines_from (line ++ b ∷ []) bytes

-- the lines of what has come of an input so far: those that have their line feed, without it
abbrev pub whole_lines : List ℕ → List (List ℕ)
whole_lines bytes = whole_lines_from [] bytes

-- none of these bytes is a line feed
abbrev pub is_plain : List ℕ → Bool
is_plain [] = true
is_plain (b ∷ bytes) = if b == 10 then false else is_plain bytes

-- one line: bytes without a line feed, and a line feed
abbrev pub IsOneLine : List ℕ → Type 0
IsOneLine text = (line : List ℕ) × IsTrue (is_plain line) × (text ≡ line ++ 10 ∷ [])

-- what is kept of the line that has this text so far: all of it, or nothing where it is too long or there is no memory
abbrev pub IsKept : LineRead → List ℕ → List ℕ → Type 0
IsKept Complete text kept = (kept ≡ text) × (length text ≤ MAX_INPUT)
IsKept TooLong text kept = MAX_INPUT < length text
IsKept NoMemory text kept = Unit {0}
IsKept End text kept = (text ≡ []) × (kept ≡ [])

-- a line was read that has this text
abbrev pub IsRead : LineRead → List ℕ → List ℕ → Type 0
IsRead Complete text kept = IsKept Complete text kept
IsRead TooLong text kept = IsKept TooLong text kept
IsRead NoMemory text kept = Unit {0}
IsRead End text kept = ⊥

-- a part of a line was added to it
pub record Adds (part : List ℕ) (old new : Line) : Type 0 where
  pub plain : IsTrue (is_plain part)
  pub keeps : (text : List ℕ) → IsKept old.read text old.text.items → IsKept new.read (text ++ part) new.text.items
