use Rattle.am_run.proofs.Refusals.{handed_on, unplayed}
use Rattle.am_run.specs.Faults.{fault_of_input}
use Rattle.am_scenario.proofs.Texts.{sound_config}
use Rattle.am_run.proofs.run.report_of.Goals as goal

pub returns-clause-report : goal.returns-clause-report
returns-clause-report g c =
    record {
      scenario = c.in_ok-scenario.scenario;
      decoded = c.in_ok-scenario.ensures.scenario;
      played = c.in_ok-play_scenario.ensures.report;
    }

pub returns-in_err-play_scenario-clause-refused : goal.returns-in_err-play_scenario-clause-refused
returns-in_err-play_scenario-clause-refused g c =
    let input = c.args.input.now in
    let decoded = c.in_ok-scenario.ensures.scenario in
    let fault = c.in_err-play_scenario.field-0.0 in
    let sound = sound_config input c.in_ok-scenario.scenario decoded in
    let full = c.in_err-play_scenario.ensures.refused sound in
    handed_on input c.from_residual-in_err-play_scenario.result (fault_of_input fault) c.from_residual-in_err-play_scenario.ensures.1
    (unplayed input fault (decoded.value, decoded.text) full
    (λ refusal. record { scenario = c.in_ok-scenario.scenario; decoded = decoded; stuck = c.in_err-play_scenario.ensures.full sound refusal }))
