use Rattle.std.proofs.Common.{subst, sym}
use Rattle.am_board.specs.DueOrder.{AreRising}
use Rattle.am_board.proofs.lemmas.invariant.DueRings.{rise_none}
use Rattle.am_board.proofs.due.ring.DueRing.new.Goals as goal

pub invariant_of-result : goal.invariant_of-result
invariant_of-result c = subst AreRising (sym c.new.ensures.items) rise_none
