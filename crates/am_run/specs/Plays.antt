-- The report on a scenario that ran.
use Rattle.std.specs.Prelude.{◌≡◌, ℕ, ◌+◌, List}
use Rattle.am_model.specs.declared.record.Record.{Record}
use Rattle.am_desk.specs.Terms.{terms}
use Rattle.am_run.specs.Lanes.{calls_by, lane_calls}
use Rattle.am_run.specs.Parts.{SplitsByPhase}
use Rattle.am_run.specs.Report.{IsReportOn}
use Rattle.am_scenario.specs.Scripts.{IsAsPlanned}
use Rattle.am_scenario.specs.Decoding.{IsScenarioIn}
use Rattle.am_run.specs.Turns.{AreAllMainStepsOf}
use Rattle.am_scenario.specs.declared.scenario.Scenario.{Scenario}

-- the text is the report on a legal history of the board of this id, with the scenario's configuration, in which the pass after each
-- lane's number has made just the calls of that lane, and the pass 0, the main thread's, its turn in each phase, in which each
-- try went as the scripts plan, with the reports that the text says of; and in which the phases come one after the other, each with
-- the calls of its lanes after the last begin of its turn and before the notes
pub record IsPlayOf (id : ℕ) (scenario : Scenario) (text : List ℕ) : Type 0 where
  pub history : List Record
  pub report : IsReportOn scenario.config id history text
  pub lanes : (i : ℕ) → calls_by (i + 1) history ≡ lane_calls i scenario.phases.items
  pub main : AreAllMainStepsOf (IsAsPlanned scenario.scripts.items) (terms scenario.config id) 0 history scenario.phases.items
      report.reports
  pub parts : SplitsByPhase (terms scenario.config id) scenario.phases.items main.turns history

-- the text is the report on the scenario that an input says, which ran on the board of this id
pub record IsPlay (id : ℕ) (input text : List ℕ) : Type 0 where
  pub scenario : Scenario
  pub decoded : IsScenarioIn input scenario
  pub played : IsPlayOf id scenario text
