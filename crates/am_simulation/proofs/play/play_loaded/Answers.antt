use Rattle.std.proofs.Common.{◌≡◌, ◌∙◌, ℕ, None, ap, arith, length, subst, sym}
use Rattle.am_model.specs.Config.{config_fault}
use Rattle.am_model.specs.declared.config.Config.{Config}
use Rattle.am_simulation.specs.Simulations.{IsStopped, scene_in, setting_in}
use Rattle.am_simulation.specs.Next.{next}
use Rattle.am_simulation.specs.Play.{Reaches}
use Rattle.am_simulation.specs.Scene.{Scene, Setting, opening_scene, setting_with}
use Rattle.am_simulation.specs.CauseOfFault.{IsCauseOfFault}
use Rattle.am_simulation.proofs.Coming.{next_none}
use Rattle.am_simulation.proofs.Hindering.{handed_on, cause_of_stop}
use Rattle.am_simulation.proofs.play.play_loaded.Goals as goal

pub run-requires-clause-until : goal.run-requires-clause-until
run-requires-clause-until g c = omega (arith, ap (λ (r : Setting). r.until) c.in_ok-simulation.ensures.setting, c.requires)

pub run-requires-clause-faultless : goal.run-requires-clause-faultless
run-requires-clause-faultless g c =
    subst (λ (x : Config). config_fault x ≡ None) (sym (ap (λ (s : Scene). s.board.config) c.in_ok-simulation.ensures.scene)) c.in_ok-simulation.ensures.faultless

pub into_played-requires : goal.into_played-requires
into_played-requires g c =
    let last = c.run.new.self in
    let none = (next_none (setting_in c.in_ok-simulation.simulation) (scene_in last) c.in-Ok.ensures.over).0 in
    ap length none

pub returns-in_ok-into_played-in-Ok-clause-played : goal.returns-in_ok-into_played-in-Ok-clause-played
returns-in_ok-into_played-in-Ok-clause-played g c =
    let config = c.args.part.config in
    let plans = c.args.part.plans.items in
    let r : Setting = setting_with c.args.part.until c.args.conditions.now.upkeep c.args.conditions.now.outages.now c.args.part.span in
    let was = c.in_ok-simulation.simulation in
    let last : Scene = scene_in c.run.new.self in
    let set : setting_in was ≡ r = c.in_ok-simulation.ensures.setting in
    record {
      last = last;
      reached = subst (λ (q : Setting). Reaches q (opening_scene r config plans) last) set
          (subst (λ (s : Scene). Reaches (setting_in was) s last) c.in_ok-simulation.ensures.scene c.in-Ok.ensures.reached);
      over = subst (λ (q : Setting). next q last ≡ None) set c.in-Ok.ensures.over;
      board_is = c.in_ok-into_played-in-Ok.ensures.board;
      events_are = c.in_ok-into_played-in-Ok.ensures.events;
    }

pub returns-in_err-simulation-clause-refused : goal.returns-in_err-simulation-clause-refused
returns-in_err-simulation-clause-refused g c =
    let why = c.in_err-simulation.ensures.refused in
    handed_on c.from_residual.result _ _
    (λ fault is. subst (IsCauseOfFault (setting_with c.args.part.until c.args.conditions.now.upkeep c.args.conditions.now.outages.now c.args.part.span) c.args.part.config c.args.part.plans.items) (sym (is ∙ why.0)) why.1) c.from_residual.ensures.1

pub returns-in-Err-clause-refused : goal.returns-in-Err-clause-refused
returns-in-Err-clause-refused g c =
    let plans = c.args.part.plans.items in
    let r : Setting = setting_with c.args.part.until c.args.conditions.now.upkeep c.args.conditions.now.outages.now c.args.part.span in
    let was = c.in_ok-simulation.simulation in
    let fault = c.in-Err.fault in
    let first : Scene = opening_scene r c.args.part.config plans in
    cause_of_stop r c.args.part.config plans fault
    (subst (λ (q : Setting). IsStopped q (length plans) first fault) c.in_ok-simulation.ensures.setting
    (subst (λ (s : Scene). IsStopped (setting_in was) (length plans) s fault) c.in_ok-simulation.ensures.scene
    (subst (λ (n : ℕ). IsStopped (setting_in was) n (scene_in was) fault) c.in_ok-simulation.ensures.counted c.in-Err.ensures.stopped)))
