use Rattle.std.proofs.Common.{length}
use Rattle.am_rehearse.proofs.compare.+add_later.Given as goal

abbrev pub decreases-add_later : goal.decreases-add_later
decreases-add_later g l = length l.old.now
