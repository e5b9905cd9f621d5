use Rattle.am_run.proofs.Refusals.{handed_on, unread}
use Rattle.am_run.specs.Faults.{fault_of_input}
use Rattle.am_scenario.proofs.Texts.{no_text}
use Rattle.am_run.proofs.run.read.Goals as goal

pub returns-in_err-read_scenario-clause-refused : goal.returns-in_err-read_scenario-clause-refused
returns-in_err-read_scenario-clause-refused c =
    let input = c.args.input.now in
    let fault = c.in_err-read_scenario.field-0.0 in
    handed_on input c.from_residual-in_err-read_scenario.result (fault_of_input fault) c.from_residual-in_err-read_scenario.ensures.1
    (unread input fault (_, c.in_ok-value.ensures.value) (no_text input _ fault c.in_ok-value.ensures.value c.in_err-read_scenario.ensures.refused))
