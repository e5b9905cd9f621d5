use Rattle.std.proofs.Common.{length}
use Rattle.am_render.proofs.render.+add_playbacks.Given as goal

abbrev pub decreases-add_playbacks : goal.decreases-add_playbacks
decreases-add_playbacks l = length l.logs.now
