use Rattle.std.proofs.Common.{◌∙◌, arith, refl}
use Rattle.am_simulation.proofs.Coming.{front_plan, no_plan, none_front}
use Rattle.am_simulation.proofs.play.Simulation.next_plan.Goals as goal

pub returns-in-None : goal.returns-in-None
returns-in-None c =
    let was = c.args.self.now in
    no_plan was.until was.plans.items (omega (arith, was.plans.ok.0, none_front c.front.result was.plans.len c.in-None.is c.front.ensures.variant.1))

pub returns-in-Some : goal.returns-in-Some
returns-in-Some c =
    let was = c.args.self.now in
    c.in_time.ensures ∙ front_plan was.until was.plans.items c.in-Some.plan.now (omega (arith, was.plans.ok.0, c.in-Some.ensures.variant.0 refl)) c.in-Some.ensures.lookup
