use Rattle.am_simulation.proofs.Keeping.{have_inputs}
use Rattle.am_simulation.proofs.law.plays_have_their_inputs.Goals as goal

pub returns : goal.returns
returns c = have_inputs
