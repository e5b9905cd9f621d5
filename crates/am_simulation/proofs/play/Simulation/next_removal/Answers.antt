use Rattle.std.proofs.Common.{◌∙◌, ap, sym}
use Rattle.am_simulation.specs.Next.{in_time}
use Rattle.am_simulation.specs.Simulations.{scene_in, setting_in}
use Rattle.am_simulation.specs.declared.next.Step.TheVariants as step
use Rattle.am_simulation.proofs.Coming.{no_removal, removal_at}
use Rattle.am_simulation.proofs.play.Simulation.next_removal.Goals as goal

pub returns-then-not-has_empty_groups : goal.returns-then-not-has_empty_groups
returns-then-not-has_empty_groups c =
    let was = c.args.self.now in
    no_removal (setting_in was) (scene_in was) (sym c.has_empty_groups.ensures ∙ c.if-not-has_empty_groups.true)

pub returns : goal.returns
returns c =
    let was = c.args.self.now in
    c.in_time.ensures ∙ ap (λ at. in_time was.until at step.Removal) c.tick_after-tick.ensures
    ∙ removal_at (setting_in was) (scene_in was) (sym c.has_empty_groups.ensures ∙ c.if-not-has_empty_groups.false)
