use Rattle.std.proofs.Common.{◌∙◌, ap, sym}
use Rattle.am_simulation.specs.Simulations.{scene_in, setting_in}
use Rattle.am_simulation.specs.Next.{comes_by, earlier}
use Rattle.am_simulation.proofs.Coming.{first_kept, next_else, next_on}
use Rattle.am_simulation.proofs.play.Simulation.next.Goals as goal

pub returns-then-begins_on : goal.returns-then-begins_on
returns-then-begins_on c =
    let was = c.args.self.now in
    sym (next_on (setting_in was) (scene_in was) (sym c.begins_on.ensures ∙ c.if-begins_on.true))

pub returns-then-comes_by : goal.returns-then-comes_by
returns-then-comes_by c =
    let was = c.args.self.now in
    let first = c.next_but_begins-first.ensures in
    first
    ∙ sym (first_kept (setting_in was) (scene_in was) (sym (ap (comes_by was.clock) first) ∙ (sym c.comes_by.ensures ∙ c.if-comes_by.true)))
    ∙ sym (next_else (setting_in was) (scene_in was) (sym c.begins_on.ensures ∙ c.if-begins_on.false))

pub returns : goal.returns
returns c =
    let was = c.args.self.now in
    c.earlier.ensures
    ∙ ap (λ o. earlier o c.next_begin.result) c.next_but_begins-first.ensures
    ∙ ap (earlier _) c.next_begin.ensures
    ∙ sym (next_else (setting_in was) (scene_in was) (sym c.begins_on.ensures ∙ c.if-begins_on.false))
