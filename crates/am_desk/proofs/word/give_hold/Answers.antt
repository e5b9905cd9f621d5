use Rattle.std.proofs.Common.{arith}
use Rattle.am_desk.proofs.Steps.{hands_over}
use Rattle.am_desk.proofs.word.give_hold.Goals as goal

pub split_seat-requires : goal.split_seat-requires
split_seat-requires c = (c.requires.cell.0, omega (arith, c.requires.cell.1), hands_over _ _ c.requires.holds)
