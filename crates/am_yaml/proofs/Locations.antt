-- Lines and columns behind one more byte, and locations behind a byte order mark.
use Rattle.std.proofs.Common.{◌≡◌, ◌+◌, ◌<◌, ◌≤◌, ◌∙◌, ℕ, List, ap, arith, cond, drop, eqb, get_or, length, length-drop, take}
use Rattle.std.proofs.lemmas.Bool.{ne_eqb}
use Rattle.std.proofs.lemmas.List.Sums.{fold_more}
use Rattle.am_yaml.specs.Fault.{AtLocation}
use Rattle.am_yaml.specs.Location.{IsLocationIn, IsLocationOf, column_behind, line_behind}
use Rattle.am_yaml.specs.declared.fault.YamlFault.{YamlFault}
use Rattle.am_yaml.specs.declared.fault.YamlFault.TheVariants.{Refused, TooLong, NoMemory}

-- what a byte makes of the line, and of the column
abbrev next_line : ℕ → ℕ → ℕ
next_line line byte = cond (eqb byte 10) (line + 1) line

abbrev next_column : ℕ → ℕ → ℕ
next_column column byte = cond (eqb byte 10) 1 (column + 1)

pub line_behind-break : (xs : List ℕ) (i : ℕ) → i < length xs → get_or xs i 0 ≡ 10 → line_behind (take (i + 1) xs) ≡ line_behind (take i xs) + 1
line_behind-break xs i within is = fold_more next_line 1 xs i 0 within ∙ ap (λ (b : ℕ). next_line (line_behind (take i xs)) b) is

pub line_behind-other : (xs : List ℕ) (i : ℕ) → i < length xs → (get_or xs i 0 ≡ 10 → ⊥) → line_behind (take (i + 1) xs) ≡ line_behind (take i xs)
line_behind-other xs i within is =
    fold_more next_line 1 xs i 0 within ∙ ap (λ b. cond b (line_behind (take i xs) + 1) (line_behind (take i xs))) (ne_eqb (get_or xs i 0) 10 is)

pub column_behind-break : (xs : List ℕ) (i : ℕ) → i < length xs → get_or xs i 0 ≡ 10 → column_behind (take (i + 1) xs) ≡ 1
column_behind-break xs i within is = fold_more next_column 1 xs i 0 within ∙ ap (λ (b : ℕ). next_column (column_behind (take i xs)) b) is

pub column_behind-other : (xs : List ℕ) (i : ℕ) → i < length xs → (get_or xs i 0 ≡ 10 → ⊥) → column_behind (take (i + 1) xs) ≡ column_behind (take i xs) + 1
column_behind-other xs i within is =
    fold_more next_column 1 xs i 0 within ∙ ap (λ b. cond b 1 (column_behind (take i xs) + 1)) (ne_eqb (get_or xs i 0) 10 is)

-- a location of what is behind a mark is a location of the whole text
pub placed_behind : (text rest : List ℕ) (mark : ℕ) → mark ≤ 3 → mark ≤ length text → rest ≡ drop mark text
    → (fault : YamlFault) → AtLocation (IsLocationOf rest) fault → AtLocation (IsLocationIn text) fault
placed_behind text rest mark short within is (Refused line column reason) placed =
    let size : length rest ≡ length (drop mark text) = ap length is in
    let fits : mark + placed.0 ≤ length text = omega (arith, within, placed.1, size, length-drop mark text) in (
      mark,
      placed.0,
      short,
      fits,
      placed.2 ∙ ap (λ (t : List ℕ). line_behind (take placed.0 t)) is,
      placed.3 ∙ ap (λ (t : List ℕ). column_behind (take placed.0 t)) is,
    )
placed_behind text rest mark short within is TooLong placed = tt
placed_behind text rest mark short within is NoMemory placed = tt
