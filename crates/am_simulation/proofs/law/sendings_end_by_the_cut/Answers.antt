use Rattle.am_simulation.proofs.CutOff.{sendings_end}
use Rattle.am_simulation.proofs.law.sendings_end_by_the_cut.Goals as goal

pub returns : goal.returns
returns c = sendings_end
