use Rattle.std.proofs.Common.{ap}
use Rattle.am_simulation.specs.Simulations.{scene_in, setting_in}
use Rattle.am_simulation.proofs.Hindering.{maintain_hindered}
use Rattle.am_simulation.proofs.Stepping.{maintenance_is}
use Rattle.am_simulation.proofs.play.Simulation.make_maintenance.Goals as goal

pub returns-in-Ok-clause-done : goal.returns-in-Ok-clause-done
returns-in-Ok-clause-done c =
    let was = c.args.self.now in
    maintenance_is (setting_in was) (scene_in was) c.args.at c.saturating_add-self.result c.maintain.new.self.board c.maintain.new.self.events.items c.in-Ok.ensures.called
    (ap (λ es. es.items) c.maintain.ensures.events) c.saturating_add-self.ensures

pub returns-in-Err-clause-hindered : goal.returns-in-Err-clause-hindered
returns-in-Err-clause-hindered c =
    maintain_hindered c.args.self.now.board.board c.args.at c.in-Err.fault c.full_or_memory.result c.full_or_memory.ensures c.in-Err.ensures.cause
