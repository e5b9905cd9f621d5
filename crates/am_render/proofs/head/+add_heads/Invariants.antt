use Rattle.std.proofs.Common.{length}
use Rattle.am_render.proofs.head.+add_heads.Given as goal

abbrev pub decreases-add_heads : goal.decreases-add_heads
decreases-add_heads l = length l.changes.now
