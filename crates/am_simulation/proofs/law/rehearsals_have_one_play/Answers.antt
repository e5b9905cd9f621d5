use Rattle.am_simulation.proofs.OnePlay.{one_play}
use Rattle.am_simulation.proofs.law.rehearsals_have_one_play.Goals as goal

pub returns : goal.returns
returns c = one_play
