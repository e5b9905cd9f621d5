use Rattle.std.proofs.Common.{ap, arith, length, sym}
use Rattle.std.proofs.lemmas.List.Edits.{length-remove}
use Rattle.am_simulation.specs.Simulations.{scene_in, setting_in}
use Rattle.am_simulation.specs.Scene.{SendingData}
use Rattle.am_simulation.proofs.Stepping.{finish_done}
use Rattle.am_simulation.proofs.play.Simulation.finish.Goals as goal

pub returns-clause-done : goal.returns-clause-done
returns-clause-done c =
    let was = c.args.self.now in
    let s = c.remove-sending.result in
    finish_done (setting_in was) (scene_in was) c.args.position s c.sending.inside.own c.finish.new.self.board c.finish.new.self.events.items c.remove-sending.new.self
    c.remove-sending.ensures.value
    (sym (ap (λ (t : SendingData). t.ticket) c.sending.view_is)) c.finish.ensures.called (ap (λ es. es.items) c.finish.ensures.events) c.remove-sending.ensures.items

pub returns-clause-left : goal.returns-clause-left
returns-clause-left c =
    let was = c.args.self.now in
    omega (arith, ap length c.remove-sending.ensures.items, length-remove was.sendings c.args.position c.requires)
