use Rattle.std.proofs.Common.{refl}
use Rattle.am_simulation.proofs.Scenes.{same_scene}
use Rattle.am_simulation.proofs.play.Simulation.add.Goals as goal

pub returns-in-Ok-clause-added : goal.returns-in-Ok-clause-added
returns-in-Ok-clause-added c =
    let was = c.args.self.now in
    same_scene was.plans.items was.clock was.next_maintenance was.is_beginning was.is_blocked refl refl c.in-Ok.ensures.added
