use Rattle.std.proofs.Common.{arith}
use Rattle.am_desk.proofs.Steps.{joins_holder}
use Rattle.am_desk.proofs.word.take_hold.Goals as goal

pub join_seat-requires : goal.join_seat-requires
join_seat-requires c =
    (c.requires.cells.0.0, c.requires.cells.1.0, c.requires.holder.1, omega (arith, c.requires.cells.0.1), joins_holder _ _ _ _ c.requires.keeper c.requires.holder.0)
