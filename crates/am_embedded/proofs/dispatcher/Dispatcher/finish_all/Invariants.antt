use Rattle.std.proofs.Common.{vec_len}
use Rattle.am_embedded.proofs.dispatcher.Dispatcher.finish_all.Given as goal

abbrev pub decreases-loop-self : goal.decreases-loop-self
decreases-loop-self l = vec_len l.left
