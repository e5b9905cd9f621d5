-- A law on clocks.
use Rattle.std.specs.Prelude.{◌≡◌, ℕ, ◌<◌, ◌≤◌, true, List}
use Rattle.std.specs.List.{list_any}
use Rattle.am_hours.specs.declared.piece.Piece.{Piece}
use Rattle.am_hours.specs.Pieces.{are_in_row, is_in}

-- pieces in a row from one time to another hold each time between
abbrev pub RowsHoldEachTime : Type 0
RowsHoldEachTime =
    (pieces : List Piece) (from to t : ℕ) → are_in_row from pieces to ≡ true → from ≤ t → t < to
    → list_any (λ p. is_in p t) pieces ≡ true
