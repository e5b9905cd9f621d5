use Rattle.std.proofs.Common.{◌∙◌, ◌+◌, ◌-◌, ap}
use Rattle.am_simulation.specs.Simulations.{scene_in}
use Rattle.am_simulation.proofs.Stepping.{plan_is}
use Rattle.am_simulation.proofs.play.Simulation.act.Goals as goal

pub returns-in-Ok-clause-done : goal.returns-in-Ok-clause-done
returns-in-Ok-clause-done c =
    let was = c.args.self.now in
    plan_is (scene_in was) c.args.plan was.plans.items c.act.new.self.board c.act.new.self.events.items c.in-Ok.ensures.called (ap (λ es. es.items) c.act.ensures.events)

pub returns-in-Err-Refused-clause-hindered : goal.returns-in-Err-Refused-clause-hindered
returns-in-Err-Refused-clause-hindered c =
    let was = c.args.self.now in (
      c.saturating_sub-index.ensures ∙ ap (λ n. was.count - (n + 1)) (c.len.ensures ∙ was.plans.ok.0),
      rw c.in-Err-Refused.field-0-is at c.in-Err-Refused.ensures.cause,
    )
