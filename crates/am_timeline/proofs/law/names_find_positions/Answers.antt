use Rattle.am_timeline.proofs.Names
use Rattle.am_timeline.proofs.law.names_find_positions.Goals as goal

pub returns : goal.returns
returns c = Names.names_find_positions
