use Rattle.std.proofs.Common.{arith}
use Rattle.am_desk.proofs.Steps.{takes_all}
use Rattle.am_desk.proofs.word.take_all.Goals as goal

pub load-requires : goal.load-requires
load-requires c = (c.requires.cell.0, omega (arith, c.requires.cell.1), takes_all _ _ _ c.requires.takes)
