use Rattle.std.proofs.Common.{◌≡◌, ◌<◌, ◌∙◌, ℕ, All, List, None, vec_len, sym, ap, subst, arith}
use Rattle.std.specs.String.{string_bytes}
use Rattle.std.proofs.lemmas.List.{length-map}
use Rattle.std.proofs.lemmas.Result.{IfErr-weaker, IfOk-weaker}
use Rattle.std.specs.Prelude.{IsTrue}
use Rattle.am_json.specs.Read.{IsRefusedBy, is_refusal}
use Rattle.am_json.specs.declared.fault.InputFault.{InputFault}
use Rattle.am_model.specs.Config.{config_fault}
use Rattle.am_run.specs.IsCauseOfFull.{IsStuck}
use Rattle.am_json.specs.declared.fault.FaultKind.TheVariants.{Full}
use Rattle.am_desk.proofs.Crossing.{every}
use Rattle.am_desk.specs.Plans.{Plan}
use Rattle.am_desk.specs.Terms.{terms}
use Rattle.am_desk.specs.declared.word.Terms.{Terms}
use Rattle.am_ghost.proofs.ghost_list.GhostList.TheSendSync as trail
use Rattle.am_run.specs.Interleaving.{AfterPhases}
use Rattle.am_run.specs.Runs.{IsReportOnPasses, lanes_of}
use Rattle.am_run.specs.Stops.{EndsWith, PassesStop}
use Rattle.am_run.specs.declared.lane.LaneState.{LaneState}
use Rattle.am_run.specs.declared.run.TheConstants.{BOARD_ID}
use Rattle.am_scenario.specs.Scripts.{IsAsPlanned}
use Rattle.am_scenario.specs.declared.scenario.Phase.{Phase}
use Rattle.am_scenario.specs.declared.scenario.script.Script.{Script}
use Rattle.am_run.proofs.lemmas.lanes.Crossing.{script_sync}
use Rattle.am_run.proofs.lemmas.phases.Phases.{played}
use Rattle.am_run.proofs.lemmas.phases.Stuck.{stuck}
use Rattle.am_run.proofs.Refusals.{no_refusal, passed_on}
use Rattle.am_run.proofs.run.play_on.Goals as goal

pub run_phases-requires-send-C : goal.run_phases-requires-send-C
run_phases-requires-send-C g c κs within = search (every, script_sync, trail.the_send) depth 40 fits 10000

pub run_phases-requires-clause-fresh : goal.run_phases-requires-clause-fresh
run_phases-requires-clause-fresh g c κs within = c.in_ok-run.ensures.fresh

pub run_phases-requires-clause-lanes : goal.run_phases-requires-clause-lanes
run_phases-requires-clause-lanes g c κs within =
    subst (λ (k : ℕ). All (λ (p : Phase). vec_len p.lanes < k) c.args.scenario.phases.items) (ap (λ (p : Plan). p.passes) c.requires.name.0) c.requires.lanes

pub returns-in-Ok-clause-report : goal.returns-in-Ok-clause-report
returns-in-Ok-clause-report g c =
    let scenario = c.args.scenario in
    let phases = scenario.phases.items in
    let run = c.run_phases.new.run in
    let ls = lanes_of run in
    let reports = run.reports.items in
    let t : g.N.Name.terms ≡ terms scenario.config BOARD_ID = sym c.requires.name.1 ∙ ap (terms scenario.config) c.requires.id in
    let passes = ap (λ (p : Plan). p.passes) c.requires.name.0 in
    let ran = c.in-Ok.ensures.ran in
    let had : AfterPhases (IsAsPlanned scenario.scripts.items) (terms scenario.config BOARD_ID) phases run.main ls reports =
    subst (λ (x : Terms). AfterPhases (IsAsPlanned scenario.scripts.items) x phases run.main ls reports) t
    (subst (λ (scripts : List Script). AfterPhases (IsAsPlanned scripts) g.N.Name.terms phases run.main ls reports) (sym c.requires.scripts) ran.1)
    in
    IfOk-weaker c.report_on_run.result _ _
    (λ text reported.
    played scenario BOARD_ID c.args.blank.passes run.main ls reports (string_bytes text) ran.0 had (subst (λ (x : Terms). IsReportOnPasses x run.main ls reports (string_bytes text)) t reported) c.requires.lanes
    (omega (arith, passes, run.seated, run.lane_states.ok.0, length-map run.lane_states.items (λ (s : LaneState g.row.N.Denot). s.pass))))
    c.report_on_run.ensures.report

pub returns-in-Ok-clause-refused : goal.returns-in-Ok-clause-refused
returns-in-Ok-clause-refused g c = IfErr-weaker c.report_on_run.result _ _ (λ fault full fine. subst (IsRefusedBy Full) (sym full) tt) c.report_on_run.ensures.refused

pub returns-in-Ok-clause-full : goal.returns-in-Ok-clause-full
returns-in-Ok-clause-full g c = IfErr-weaker c.report_on_run.result _ _ (λ fault full fine refusal. absurd (no_refusal fault full refusal)) c.report_on_run.ensures.refused

pub returns-clause-full : goal.returns-clause-full
returns-clause-full g c fine refusal =
    let scenario = c.args.scenario in
    let run = c.run_phases.new.run in
    let ms = lanes_of run in
    let t : g.N.Name.terms ≡ terms scenario.config BOARD_ID = sym c.requires.name.1 ∙ ap (terms scenario.config) c.requires.id in
    let passes = ap (λ (p : Plan). p.passes) c.requires.name.0 in
    let closed = c.close_stopped.ensures.full refusal in
    let stop : PassesStop (IsAsPlanned scenario.scripts.items) (terms scenario.config BOARD_ID) scenario.phases.items run.main ms =
    subst (λ (x : Terms). PassesStop (IsAsPlanned scenario.scripts.items) x scenario.phases.items run.main ms) t
    (subst (λ (scripts : List Script). PassesStop (IsAsPlanned scripts) g.N.Name.terms scenario.phases.items run.main ms) (sym c.requires.scripts) (c.in-Err.ensures.full closed.0))
    in
    stuck scenario BOARD_ID c.args.blank.passes run.main ms closed.1.0 stop (subst (λ (x : Terms). EndsWith x run.main ms closed.1.0) t closed.1.1) c.requires.lanes
    (omega (arith, passes, run.seated, run.lane_states.ok.0, length-map run.lane_states.items (λ (s : LaneState g.row.N.Denot). s.pass)))

pub returns-in_err-run-clause-refused : goal.returns-in_err-run-clause-refused
returns-in_err-run-clause-refused g c =
    let fault = c.in_err-run.field-0.0 in
    passed_on (λ (f : InputFault). config_fault c.args.scenario.config ≡ None → IsRefusedBy Full f) c.from_residual.result fault c.from_residual.ensures.1
    (λ fine. subst (IsRefusedBy Full) (sym (c.in_err-run.ensures.refused fine)) tt)

pub returns-in_err-run-clause-full : goal.returns-in_err-run-clause-full
returns-in_err-run-clause-full g c =
    let fault = c.in_err-run.field-0.0 in
    passed_on (λ (f : InputFault). config_fault c.args.scenario.config ≡ None → IsTrue (is_refusal f) → IsStuck BOARD_ID c.args.scenario) c.from_residual.result fault
    c.from_residual.ensures.1 (λ fine refusal. absurd (no_refusal fault (c.in_err-run.ensures.refused fine) refusal))
