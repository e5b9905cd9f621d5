use Rattle.std.proofs.Common.{◌≡◌}
use Rattle.am_simulation.specs.Simulations.{scene_in, setting_in}
use Rattle.am_simulation.specs.Play.{Reaches}
use Rattle.am_simulation.proofs.Ending.{steps_left}
use Rattle.am_simulation.proofs.play.Simulation.run.Given as goal

-- some number of steps led here, in the same setting
abbrev pub invariant-loop-next : goal.invariant-loop-next
invariant-loop-next g l = record {
  same : setting_in l.self ≡ setting_in l.fn.self;
  counted : l.self.count ≡ l.fn.self.count;
  reached : Reaches (setting_in l.fn.self) (scene_in l.fn.self) (scene_in l.self);
}

abbrev pub decreases-loop-next : goal.decreases-loop-next
decreases-loop-next g l = steps_left l.fn.self.board.board.config.limits.history (scene_in l.self)
