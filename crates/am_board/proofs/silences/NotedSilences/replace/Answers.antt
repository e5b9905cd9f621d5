use Rattle.am_board.proofs.silences.NotedSilences.replace.Goals as goal

pub invariant_of-self : goal.invariant_of-self
invariant_of-self c = c.empty.ensures _
