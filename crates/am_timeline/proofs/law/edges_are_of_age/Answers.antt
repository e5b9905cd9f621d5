use Rattle.am_timeline.proofs.law.edges_are_of_age.Goals as goal
use Rattle.am_timeline.proofs.Edges.{edges_are_of_age}

pub returns : goal.returns
returns c = edges_are_of_age
