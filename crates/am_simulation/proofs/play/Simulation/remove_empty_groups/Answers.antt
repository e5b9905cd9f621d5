use Rattle.std.proofs.Common.{ap}
use Rattle.am_simulation.specs.Simulations.{scene_in}
use Rattle.am_simulation.proofs.Hindering.{removal_hindered}
use Rattle.am_simulation.proofs.Stepping.{removal_is}
use Rattle.am_simulation.proofs.play.Simulation.remove_empty_groups.Goals as goal

pub returns-in-Ok-clause-done : goal.returns-in-Ok-clause-done
returns-in-Ok-clause-done c =
    let was = c.args.self.now in
    removal_is (scene_in was) c.args.at c.remove_empty_groups.new.self.board c.remove_empty_groups.new.self.events.items c.in-Ok.ensures.called
    (ap (λ es. es.items) c.remove_empty_groups.ensures.events)

pub returns-in-Err-clause-hindered : goal.returns-in-Err-clause-hindered
returns-in-Err-clause-hindered c =
    removal_hindered c.args.self.now.board.board c.args.at c.in-Err.fault c.full_or_memory.result c.full_or_memory.ensures c.in-Err.ensures.cause
