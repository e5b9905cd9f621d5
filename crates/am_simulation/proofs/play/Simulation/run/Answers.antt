use Rattle.std.proofs.Common.{◌≡◌, ◌∙◌, ◌<◌, ℕ, None, Some, arith, ap, refl, subst, sym}
use Rattle.std.specs.Option.{IsSomeAnd}
use Rattle.am_model.specs.Config.{config_fault}
use Rattle.am_model.specs.declared.config.Config.{Config}
use Rattle.am_simulation.specs.Simulations.{IsHindered, scene_in, setting_in}
use Rattle.am_simulation.specs.Next.{next}
use Rattle.am_simulation.specs.Scene.{Setting}
use Rattle.am_simulation.specs.Steps.{Steps}
use Rattle.am_simulation.specs.declared.next.Next.{Next}
use Rattle.am_simulation.proofs.Ending.{step_falls, steps_left}
use Rattle.am_simulation.proofs.Hindering.{handed_on}
use Rattle.am_simulation.proofs.Keeping.{config_kept}
use Rattle.am_simulation.proofs.Stepping.{one_more}
use Rattle.am_simulation.proofs.play.Simulation.run.Goals as goal

pub loop-next-init : goal.loop-next-init
loop-next-init g c = record { same = refl; counted = refl; reached = (0, refl) }

pub step-requires-clause-until : goal.step-requires-clause-until
step-requires-clause-until g c = omega (arith, ap (λ (r : Setting). r.until) c.loop-next.invariant.same, c.requires.until)

pub step-requires-clause-comes : goal.step-requires-clause-comes
step-requires-clause-comes g c = sym c.next.ensures ∙ c.in-Some.is

pub loop-next-preserved : goal.loop-next-preserved
loop-next-preserved g c =
    let was = c.loop-next.self in
    let is = c.step.new.self in
    record {
      same = c.step.ensures.same ∙ c.loop-next.invariant.same;
      counted = c.step.ensures.counted ∙ c.loop-next.invariant.counted;
      reached = one_more (setting_in c.args.self.now) (scene_in c.args.self.now) (scene_in was) (scene_in is) c.loop-next.invariant.reached
          (subst (λ (r : Setting). Steps r (scene_in was) (scene_in is)) c.loop-next.invariant.same c.in_ok-step-in-Some.ensures.done);
    }

pub loop-next-smaller : goal.loop-next-smaller
loop-next-smaller g c =
    let was = c.loop-next.self in
    let is = c.step.new.self in
    let reached = c.loop-next.invariant.reached in
    let kept = config_kept (setting_in c.args.self.now) reached.0 (scene_in c.args.self.now) (scene_in was) reached.1 in
    subst (λ (config : Config). steps_left config.limits.history (scene_in is) < steps_left config.limits.history (scene_in was)) kept
    (step_falls (setting_in was) (scene_in was) (scene_in is) was.board.whole c.in-Some.next (sym c.next.ensures ∙ c.in-Some.is)
    (ap config_fault kept ∙ c.requires.faultless) c.in_ok-step-in-Some.ensures.allowed c.in_ok-step-in-Some.ensures.done)

pub returns-in-None : goal.returns-in-None
returns-in-None g c =
    record {
      reached = c.loop-next.invariant.reached;
      over = subst (λ (r : Setting). next r (scene_in c.loop-next.self) ≡ None) c.loop-next.invariant.same (sym c.next.ensures ∙ c.in-None.is);
      stopped = tt;
    }

pub returns-in_err-step-in-Some-clause-stopped : goal.returns-in_err-step-in-Some-clause-stopped
returns-in_err-step-in-Some-clause-stopped g c =
    let was = c.loop-next.self in
    let first = c.args.self.now in
    let returned = c.in_err-step-in-Some.field-0.0 in
    let comes : next (setting_in first) (scene_in was) ≡ Some c.in-Some.next =
    subst (λ (r : Setting). next r (scene_in was) ≡ Some c.in-Some.next) c.loop-next.invariant.same (sym c.next.ensures ∙ c.in-Some.is)
    in
    let hindered = subst (λ (count : ℕ). IsHindered count (scene_in was) c.in-Some.next returned) c.loop-next.invariant.counted c.in_err-step-in-Some.ensures.hindered in
    handed_on c.from_residual.result _ _
    (λ fault is. (
      scene_in was,
      c.loop-next.invariant.reached,
      subst (λ o. IsSomeAnd o (λ (n : Next). IsHindered first.count (scene_in was) n fault)) (sym comes)
          (subst (IsHindered first.count (scene_in was) c.in-Some.next) (sym is) hindered),
    )) c.from_residual.ensures.1
