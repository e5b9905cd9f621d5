use Rattle.std.proofs.Common.{length}
use Rattle.am_board.proofs.again.+put_in_each.Given as goal

abbrev pub decreases-put_in_each : goal.decreases-put_in_each
decreases-put_in_each l = length l.names.now
