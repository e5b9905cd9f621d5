-- Lines and columns, which count from 1, the column in bytes.
use Rattle.std.specs.Prelude.{◌≡◌, ◌==◌, ◌+◌, ◌≤◌, ℕ, List, fold, length, take, drop, if◌then◌else◌}

-- the line behind these first bytes of a text
abbrev pub line_behind : List ℕ → ℕ
line_behind bytes = fold (λ line byte. if byte == 10 then line + 1 else line) 1 bytes

-- the column behind these first bytes of a text
abbrev pub column_behind : List ℕ → ℕ
column_behind bytes = fold (λ column byte. if byte == 10 then 1 else column + 1) 1 bytes

-- a line and a column are the location of a byte of the text, or of its end
abbrev pub IsLocationOf : List ℕ → ℕ → ℕ → Type 0
IsLocationOf text line column =
    (at : ℕ) × (at ≤ length text) × (line ≡ line_behind (take at text)) × (column ≡ column_behind (take at text))

-- the same, where a byte order mark at the beginning of the text isn't counted
abbrev pub IsLocationIn : List ℕ → ℕ → ℕ → Type 0
IsLocationIn text line column =
    (mark : ℕ) × (at : ℕ) × (mark ≤ 3) × (mark + at ≤ length text)
    × (line ≡ line_behind (take at (drop mark text))) × (column ≡ column_behind (take at (drop mark text)))
