use Rattle.std.proofs.Common.{◌<◌, ◌≤◌, arith, length}
use Rattle.std.proofs.lemmas.Result.{IfErr-weaker, on_ok_weaker}
use Rattle.am_simulation.specs.Simulations.{scene_in, setting_in}
use Rattle.am_simulation.specs.declared.next.Step.TheVariants.{Begin, End, Finish, Maintenance, Plan, Removal}
use Rattle.am_terms.specs.declared.rehearsal.TimedAction.{TimedAction}
use Rattle.am_simulation.proofs.Hindering.{allowed_by, memory_hindered, own_hindered, plan_allowed, plan_hindered}
use Rattle.am_simulation.proofs.Stepping.{on_ok_both, plan_done, steps_by, there_for, within_some}
use Rattle.am_simulation.proofs.play.Simulation.step.Goals as goal

pub end-requires : goal.end-requires
end-requires c =
    let was = c.args.self.now in
    there_for (setting_in was) (scene_in was) c.args.coming (End c.in-End.position c.in-End.index) c.requires.comes c.in-End.is

pub finish-requires : goal.finish-requires
finish-requires c =
    let was = c.args.self.now in
    there_for (setting_in was) (scene_in was) c.args.coming (Finish c.in-Finish.position) c.requires.comes c.in-Finish.is

pub begin-requires : goal.begin-requires
begin-requires c =
    let was = c.args.self.now in
    omega (arith, c.requires.until, (there_for (setting_in was) (scene_in was) c.args.coming Begin c.requires.comes c.in-Begin.is).0)

pub unreachable-requires : goal.unreachable-requires
unreachable-requires c =
    let was = c.args.self.now in
    let there : 0 < length was.plans.items =
    within_some was.plans.items 0 (λ (p : TimedAction). p.at ≤ was.until) (there_for (setting_in was) (scene_in was) c.args.coming Plan c.requires.comes c.in-Plan.is)
    in
    absurd (omega (arith, was.plans.ok.0, c.in-None.ensures.cases.0, there))

pub returns-in-End-clause-done : goal.returns-in-End-clause-done
returns-in-End-clause-done c =
    let was = c.args.self.now in
    on_ok_weaker c.end.result (steps_by (setting_in was) (scene_in was) c.args.coming (End c.in-End.position c.in-End.index) c.requires.comes c.in-End.is (scene_in c.end.new.self)) c.end.ensures.done

pub returns-in-Finish-clause-done : goal.returns-in-Finish-clause-done
returns-in-Finish-clause-done c =
    let was = c.args.self.now in
    steps_by (setting_in was) (scene_in was) c.args.coming (Finish c.in-Finish.position) c.requires.comes c.in-Finish.is (scene_in c.finish.new.self) c.finish.ensures.done

pub returns-in-Some-clause-done : goal.returns-in-Some-clause-done
returns-in-Some-clause-done c =
    let was = c.args.self.now in
    let d = scene_in c.act.new.self in
    on_ok_both c.act.result
    (λ free done. steps_by (setting_in was) (scene_in was) c.args.coming Plan c.requires.comes c.in-Plan.is d
    (plan_done (scene_in was) d was.plans.items c.pop_front.new.self.items c.in-Some.plan c.in-Some.ensures.items (free, done)))
    c.act.ensures.allowed c.act.ensures.done

pub returns-in-Maintenance-clause-done : goal.returns-in-Maintenance-clause-done
returns-in-Maintenance-clause-done c =
    let was = c.args.self.now in
    on_ok_weaker c.make_maintenance.result (steps_by (setting_in was) (scene_in was) c.args.coming Maintenance c.requires.comes c.in-Maintenance.is (scene_in c.make_maintenance.new.self)) c.make_maintenance.ensures.done

pub returns-in-Removal-clause-done : goal.returns-in-Removal-clause-done
returns-in-Removal-clause-done c =
    let was = c.args.self.now in
    on_ok_weaker c.remove_empty_groups.result (steps_by (setting_in was) (scene_in was) c.args.coming Removal c.requires.comes c.in-Removal.is (scene_in c.remove_empty_groups.new.self)) c.remove_empty_groups.ensures.done

pub returns-in-Begin-clause-done : goal.returns-in-Begin-clause-done
returns-in-Begin-clause-done c =
    let was = c.args.self.now in
    on_ok_weaker c.begin.result (steps_by (setting_in was) (scene_in was) c.args.coming Begin c.requires.comes c.in-Begin.is (scene_in c.begin.new.self)) c.begin.ensures.done

pub returns-in-End-clause-allowed : goal.returns-in-End-clause-allowed
returns-in-End-clause-allowed c =
    let was = c.args.self.now in
    on_ok_weaker c.end.result (λ done. allowed_by was.count (scene_in was) c.args.coming (End c.in-End.position c.in-End.index) c.in-End.is tt) c.end.ensures.done

pub returns-in-End-clause-hindered : goal.returns-in-End-clause-hindered
returns-in-End-clause-hindered c =
    let was = c.args.self.now in
    IfErr-weaker c.end.result _ _ (memory_hindered was.count (scene_in was) c.args.coming) c.end.ensures.memory

pub returns-in-Finish-clause-allowed : goal.returns-in-Finish-clause-allowed
returns-in-Finish-clause-allowed c =
    let was = c.args.self.now in
    allowed_by was.count (scene_in was) c.args.coming (Finish c.in-Finish.position) c.in-Finish.is tt

pub returns-in-Some-clause-allowed : goal.returns-in-Some-clause-allowed
returns-in-Some-clause-allowed c =
    let was = c.args.self.now in
    on_ok_weaker c.act.result
    (plan_allowed was.count (scene_in was) c.args.coming c.in-Plan.is c.in-Some.plan c.pop_front.new.self.items c.in-Some.ensures.items) c.act.ensures.allowed

pub returns-in-Some-clause-hindered : goal.returns-in-Some-clause-hindered
returns-in-Some-clause-hindered c =
    let was = c.args.self.now in
    IfErr-weaker c.act.result _ _
    (plan_hindered was.count (scene_in was) c.args.coming c.in-Plan.is c.in-Some.plan c.pop_front.new.self.items c.in-Some.ensures.items) c.act.ensures.hindered

pub returns-in-Maintenance-clause-allowed : goal.returns-in-Maintenance-clause-allowed
returns-in-Maintenance-clause-allowed c =
    let was = c.args.self.now in
    on_ok_weaker c.make_maintenance.result (allowed_by was.count (scene_in was) c.args.coming Maintenance c.in-Maintenance.is) c.make_maintenance.ensures.allowed

pub returns-in-Removal-clause-allowed : goal.returns-in-Removal-clause-allowed
returns-in-Removal-clause-allowed c =
    let was = c.args.self.now in
    on_ok_weaker c.remove_empty_groups.result (allowed_by was.count (scene_in was) c.args.coming Removal c.in-Removal.is) c.remove_empty_groups.ensures.allowed

pub returns-in-Maintenance-clause-hindered : goal.returns-in-Maintenance-clause-hindered
returns-in-Maintenance-clause-hindered c =
    let was = c.args.self.now in
    IfErr-weaker c.make_maintenance.result _ _ (own_hindered was.count (scene_in was) c.args.coming Maintenance c.in-Maintenance.is) c.make_maintenance.ensures.hindered

pub returns-in-Removal-clause-hindered : goal.returns-in-Removal-clause-hindered
returns-in-Removal-clause-hindered c =
    let was = c.args.self.now in
    IfErr-weaker c.remove_empty_groups.result _ _ (own_hindered was.count (scene_in was) c.args.coming Removal c.in-Removal.is) c.remove_empty_groups.ensures.hindered

pub returns-in-Begin-clause-allowed : goal.returns-in-Begin-clause-allowed
returns-in-Begin-clause-allowed c =
    let was = c.args.self.now in
    on_ok_weaker c.begin.result (λ done. allowed_by was.count (scene_in was) c.args.coming Begin c.in-Begin.is tt) c.begin.ensures.done

pub returns-in-Begin-clause-hindered : goal.returns-in-Begin-clause-hindered
returns-in-Begin-clause-hindered c =
    let was = c.args.self.now in
    IfErr-weaker c.begin.result _ _ (own_hindered was.count (scene_in was) c.args.coming Begin c.in-Begin.is) c.begin.ensures.hindered
