use Rattle.std.proofs.Common.{subst, sym}
use Rattle.am_board.specs.DueOrder.{AreRising}
use Rattle.am_board.proofs.lemmas.invariant.DueRings.{rise_none}
use Rattle.am_board.proofs.due.ring.DueRing.clear.Goals as goal

pub invariant_of-self : goal.invariant_of-self
invariant_of-self c = subst AreRising (sym c.clear.ensures.items) rise_none
