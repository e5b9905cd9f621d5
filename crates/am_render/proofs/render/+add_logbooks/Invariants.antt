use Rattle.std.proofs.Common.{length}
use Rattle.am_render.proofs.render.+add_logbooks.Given as goal

abbrev pub decreases-add_logbooks : goal.decreases-add_logbooks
decreases-add_logbooks l = length l.played.now
