use Rattle.std.proofs.Common.{arith}
use Rattle.am_desk.proofs.Steps.{slips}
use Rattle.am_desk.proofs.word.hand_out.Goals as goal

pub split_seat-slip-requires : goal.split_seat-slip-requires
split_seat-slip-requires c = (c.requires.cells.0.0, omega (arith, c.requires.cells.0.1), slips _ _)
