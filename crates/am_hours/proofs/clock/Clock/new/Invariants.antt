use Rattle.std.proofs.Common.{◌≡◌, ◌≤◌, ◌-◌, pos, true}
use Rattle.std.specs.Int.{int_div_euclid}
use Rattle.std.specs.List.{All}
use Rattle.jiff.specs.Words.{plain_zone}
use Rattle.am_hours.specs.Clocks.{IsPieceOf}
use Rattle.am_hours.specs.Pieces.{are_in_row}
use Rattle.am_hours.specs.Showing.{BeginsAsShown}
use Rattle.am_hours.proofs.clock.Clock.new.Given as goal

abbrev pub invariant-loop-at : goal.invariant-loop-at
invariant-loop-at l = record {
  row : are_in_row 0 l.pieces.items l.at ≡ true;
  within : l.at ≤ l.horizon;
  shown : All (BeginsAsShown (plain_zone l.zone) (int_div_euclid l.fn.start.nanosecond (pos 1000000))) l.pieces.items;
  are : All (IsPieceOf (plain_zone l.zone) (int_div_euclid l.fn.start.nanosecond (pos 1000000)) l.horizon) l.pieces.items;
}

abbrev pub decreases-loop-at : goal.decreases-loop-at
decreases-loop-at l = l.horizon - l.at
