use Rattle.std.proofs.Common.{◌∙◌, Some, None, ap, sym}
use Rattle.am_simulation.specs.Simulations.{scene_in, setting_in}
use Rattle.am_simulation.specs.Next.{in_time}
use Rattle.am_simulation.specs.declared.next.Step.TheVariants as step
use Rattle.am_simulation.proofs.Coming.{blocked_begin, due_begin}
use Rattle.am_simulation.proofs.play.Simulation.next_begin.Goals as goal

pub returns-then-self : goal.returns-then-self
returns-then-self c =
    let was = c.args.self.now in
    blocked_begin (setting_in was) (scene_in was) c.if-self.true

pub returns-in-None : goal.returns-in-None
returns-in-None c =
    let was = c.args.self.now in
    due_begin (setting_in was) (scene_in was) None c.if-self.false (sym c.in-None.is ∙ c.next_due.ensures)

pub returns-in-Some : goal.returns-in-Some
returns-in-Some c =
    let was = c.args.self.now in
    c.in_time.ensures ∙ ap (λ at. in_time was.until at step.Begin) c.max.ensures
    ∙ due_begin (setting_in was) (scene_in was) (Some c.in-Some.due) c.if-self.false (sym c.in-Some.is ∙ c.next_due.ensures)
