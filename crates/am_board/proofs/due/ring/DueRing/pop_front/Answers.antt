use Rattle.am_board.proofs.lemmas.invariant.DueRings.{rise_popped}
use Rattle.am_board.proofs.due.ring.DueRing.pop_front.Goals as goal

pub invariant_of-self : goal.invariant_of-self
invariant_of-self c = rise_popped c.pop_front.result c.self.inside.keys.items c.pop_front.new.self.items c.pop_front.ensures.items c.self.invariant
