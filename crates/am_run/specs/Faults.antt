-- How a run ends without its report.
use Rattle.std.specs.Prelude.{◌≡◌, ℕ, IsTrue, List}
use Rattle.am_json.specs.Read.{IsJson, IsNoJson}
use Rattle.am_json.specs.declared.fault.FaultKind.TheVariants.{Full}
use Rattle.am_json.specs.declared.fault.InputFault.{InputFault}
use Rattle.am_json.specs.declared.fault.InputFault.TheVariants as input
use Rattle.am_json.specs.declared.fault.ParseFault.{ParseFault}
use Rattle.am_json.specs.declared.fault.ParseFault.TheVariants as parse
use Rattle.am_json.specs.declared.transfer.ReadFault.{ReadFault}
use Rattle.am_json.specs.declared.transfer.ReadFault.TheVariants as read
use Rattle.am_run.specs.IsCauseOfFull.{IsStuck}
use Rattle.am_run.specs.declared.run.TheConstants.{BOARD_ID}
use Rattle.am_run.specs.declared.fault.RunFault.{RunFault}
use Rattle.am_run.specs.declared.fault.RunFault.TheVariants as run
use Rattle.am_scenario.specs.Decoding.{IsScenarioIn, scenario_compares_texts}
use Rattle.am_scenario.specs.declared.scenario.Scenario.{Scenario}

-- a fault of the input's text is the run's of the same name
abbrev pub fault_of_parse : ParseFault → RunFault
fault_of_parse (parse.NotJson line column) = run.NotJson
fault_of_parse parse.NoMemory = run.NoMemory

-- a fault of what the input says is the run's of the same name
abbrev pub fault_of_input : InputFault → RunFault
fault_of_input (input.Refused pointer fault_kind) = run.Refused pointer fault_kind
fault_of_input input.NoMemory = run.NoMemory

-- a fault of reading is the run's of the same name
abbrev pub fault_of_read : ReadFault → RunFault
fault_of_read read.Unreadable = run.Unreadable
fault_of_read read.NoMemory = run.NoMemory

-- 1 is for the input, 2 for what is in it, 3 for memory and 4 for the output
abbrev pub status_of : RunFault → ℕ
status_of run.Unreadable = 1
status_of run.NotJson = 2
status_of (run.Refused pointer fault_kind) = 2
status_of run.NoMemory = 3
status_of run.Unwritable = 4

-- an input decodes to a scenario whose play on the board of this id is stopped by a limit
pub record IsStuckInput (id : ℕ) (input : List ℕ) : Type 0 where
  pub scenario : Scenario
  pub decoded : IsScenarioIn input scenario
  pub stuck : IsStuck id scenario

-- an input is rejected as no JSON only if it is none, and at a pointer only if it is the text of a JSON value. If that decodes to a
-- scenario whose matchers need no regex, it is rejected at a pointer only as full, and a limit stops the play
abbrev pub Refuses : List ℕ → RunFault → Type 0
Refuses input run.NotJson = IsNoJson input
Refuses input (run.Refused pointer fault_kind) = IsJson input
    × ((scenario : Scenario) → IsScenarioIn input scenario → IsTrue (scenario_compares_texts scenario)
    → (fault_kind ≡ Full) × IsStuckInput BOARD_ID input)
Refuses input run.Unreadable = ⊥
Refuses input run.NoMemory = Unit {0}
Refuses input run.Unwritable = ⊥
