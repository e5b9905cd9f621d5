use Rattle.am_board.proofs.lemmas.invariant.DueKeys.{HasBelow}
use Rattle.am_board.proofs.due.DueSet.renew.Given as goal

-- the set has the keys of the groups so far
abbrev pub invariant-loop-group : goal.invariant-loop-group
invariant-loop-group l = HasBelow l.self l.groups l.group-index
