use Rattle.std.proofs.Common.{length}
use Rattle.am_simulation.proofs.play.Simulation.abandon.Given as goal

abbrev pub decreases-loop-self : goal.decreases-loop-self
decreases-loop-self l = length l.self.sendings
