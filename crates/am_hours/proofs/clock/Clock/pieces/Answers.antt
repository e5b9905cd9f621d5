use Rattle.std.proofs.Common.{◌≡◌, true, arith}
use Rattle.std.proofs.lemmas.Grind.{common_steps}
use Rattle.am_hours.specs.Pieces.{are_in_row}
use Rattle.am_hours.proofs.Rows.{row-sound}
use Rattle.am_hours.proofs.clock.Clock.pieces.Goals as goal

pub returns-clause-sound : goal.returns-clause-sound
returns-clause-sound c =
    let clock = c.args.self.now in
    let row : are_in_row 0 clock.pieces clock.horizon ≡ true = grind (arith, common_steps) in
    row-sound 0 clock.pieces clock.horizon row
