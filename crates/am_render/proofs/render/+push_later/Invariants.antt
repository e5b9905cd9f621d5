use Rattle.std.proofs.Common.{length}
use Rattle.am_render.proofs.render.+push_later.Given as goal

abbrev pub decreases-push_later : goal.decreases-push_later
decreases-push_later g l = length l.heads.now
