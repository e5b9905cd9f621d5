use Rattle.am_plays.proofs.Sound.{nothing_blocks}
use Rattle.am_plays.proofs.law.nothing_blocks.Goals as goal

pub returns : goal.returns
returns c = nothing_blocks
