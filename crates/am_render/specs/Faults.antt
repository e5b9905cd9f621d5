-- Faults: how a rehearsal ends without its output, or with an expectation that isn't met.
use Rattle.std.specs.Prelude.{◌≡◌, ◌⊎◌, ℕ, Bool, true, false, List, [], Option, None, IsTrue}
use Rattle.std.specs.List.{AllByRecursion}
use Rattle.serde_json.specs.Data.{Data}
use Rattle.am_json.specs.declared.fault.FaultKind.TheVariants.{Full}
use Rattle.am_json.specs.declared.fault.InputFault.{InputFault}
use Rattle.am_json.specs.declared.fault.InputFault.TheVariants as input
use Rattle.am_json.specs.declared.faults.Refusal.{Refusal}
use Rattle.am_json.specs.declared.faults.Refusal.TheVariants as refusal
use Rattle.am_command_line.specs.declared.exit_status.ExitStatus.{ExitStatus}
use Rattle.am_command_line.specs.declared.exit_status.ExitStatus.TheVariants as status
use Rattle.am_input.specs.Request.{IsRequestIn, IsRequestWithoutRegexes}
use Rattle.am_input.specs.declared.input.Changes.{Changes}
use Rattle.am_input.specs.declared.input.Input.{Input}
use Rattle.am_input.specs.declared.input.Output.{Output}
use Rattle.am_model.specs.Config.{config_fault}
use Rattle.am_model.specs.declared.config.Config.{Config}
use Rattle.am_plans.specs.Configs.{configs_of}
use Rattle.am_simulation.specs.Parts.{parts_from, whole_part}
use Rattle.am_simulation.specs.Playing.{IsCauseOfPartsFault}
use Rattle.am_simulation.specs.declared.play.PlayFault.{PlayFault}
use Rattle.am_simulation.specs.declared.play.PlayFault.TheVariants as play
use Rattle.am_simulation.specs.declared.playing.PartFault.{PartFault}
use Rattle.am_terms.specs.declared.expectation.Expectation.{Expectation}
use Rattle.am_terms.specs.declared.dispatcher_change.DispatcherChange.{DispatcherChange}
use Rattle.am_terms.specs.declared.rehearsal.Rehearsal.{Rehearsal}
use Rattle.am_terms.specs.UtcDates.{StartData}
use Rattle.am_render.specs.declared.fault.RehearseFault.{RehearseFault}
use Rattle.am_render.specs.declared.fault.RehearseFault.TheVariants as rehearse

-- a fault of what it says is the program's of the same name
abbrev pub fault_of_input : InputFault → RehearseFault
fault_of_input (input.Refused pointer fault_kind) = rehearse.Refused pointer fault_kind
fault_of_input input.NoMemory = rehearse.NoMemory

-- one of Alertmanager's configuration is one of an input, or all faults
abbrev pub fault_of_refusal : Refusal → RehearseFault
fault_of_refusal (refusal.One fault) = fault_of_input fault
fault_of_refusal (refusal.All faults) = rehearse.AllRefused faults

-- 2 is for what is in the input, 3 for memory, 4 for the output and 5 for what was expected
abbrev pub status_of : RehearseFault → ℕ
status_of (rehearse.Refused pointer fault_kind) = 2
status_of (rehearse.AllRefused faults) = 2
status_of rehearse.NoMemory = 3
status_of rehearse.Unwritable = 4
status_of rehearse.Unmet = 5

-- a fault ends with this status. Memory can lack for complaints, and for the report on expectations
abbrev pub FaultEndsWith : RehearseFault → ExitStatus → Type 0
FaultEndsWith (rehearse.Refused pointer fault_kind) end = (end ≡ status.Rejected) ⊎ (end ≡ status.NoMemory)
FaultEndsWith (rehearse.AllRefused faults) end = (end ≡ status.Rejected) ⊎ (end ≡ status.NoMemory)
FaultEndsWith rehearse.NoMemory end = end ≡ status.NoMemory
FaultEndsWith rehearse.Unwritable end = end ≡ status.Unwritable
FaultEndsWith rehearse.Unmet end = (end ≡ status.Unmet) ⊎ (end ≡ status.NoMemory)

-- a value with its configuration in `config` asks for this, and it isn't refused: no file is given for the configuration, and no matcher
-- needs a regex
abbrev pub IsPlayable : Changes → Data → Input → Type 0
IsPlayable changes value story =
    IsRequestWithoutRegexes changes value story.output story.start story.expectations.items story.dispatcher_changes.items story.rehearsal

-- it asks for nothing of that kind
abbrev pub RequestsNone : Changes → Data → Type 0
RequestsNone changes value = (story : Input) → IsPlayable changes value story → ⊥

-- whether a limit leaves no capacity
abbrev pub is_limit : PlayFault → Bool
is_limit play.NoMemory = false
is_limit play.BadConfig = false
is_limit (play.PlanRefused k) = true
is_limit play.Full = true

-- why a rehearsal with these changes of the dispatcher isn't played to its end
abbrev pub IsCauseOfPlayFault : Rehearsal → List DispatcherChange → PartFault → Type 0
IsCauseOfPlayFault rehearsal dispatcher_changes why =
    IsCauseOfPartsFault rehearsal.upkeep rehearsal.outages.items
    (parts_from (whole_part rehearsal.config rehearsal.until rehearsal.plans.items) dispatcher_changes) why

-- a limit leaves no capacity for what happens in a rehearsal, or a log row that a new dispatcher takes over doesn't fit
abbrev pub IsTooLarge : Rehearsal → List DispatcherChange → Type 0
IsTooLarge rehearsal dispatcher_changes =
    (why : PartFault) × IsTrue (is_limit why.fault) × IsCauseOfPlayFault rehearsal dispatcher_changes why

-- a value asks for such a rehearsal
pub record RequestsTooMuch (changes : Changes) (value : Data) : Type 0 where
  pub output : Output
  pub start : Option StartData
  pub expectations : List Expectation
  pub dispatcher_changes : List DispatcherChange
  pub rehearsal : Rehearsal
  pub requested : IsRequestIn changes value output start expectations dispatcher_changes rehearsal
  pub too_large : IsTooLarge rehearsal dispatcher_changes

-- a dispatcher may have each of these configurations
abbrev pub AreSound : List Config → Type 0
AreSound configs = AllByRecursion (λ config. config_fault config ≡ None) configs

-- a play of sound configurations is refused only where a limit leaves no capacity, or for lack of memory
abbrev pub RefusesPlay : Rehearsal → List DispatcherChange → InputFault → Type 0
RefusesPlay rehearsal dispatcher_changes (input.Refused pointer fault_kind) =
    AreSound (configs_of rehearsal.config dispatcher_changes) → (fault_kind ≡ Full) × IsTooLarge rehearsal dispatcher_changes
RefusesPlay rehearsal dispatcher_changes input.NoMemory = Unit {0}

-- a value is refused at a pointer, or for many faults, only where it asks for nothing that can be played, or where a limit leaves no
-- capacity for the rehearsal that it asks for, which is refused as full
abbrev pub Refuses : Changes → Data → RehearseFault → Type 0
Refuses changes value (rehearse.Refused pointer fault_kind) =
    RequestsNone changes value ⊎ ((fault_kind ≡ Full) × RequestsTooMuch changes value)
Refuses changes value (rehearse.AllRefused faults) = RequestsNone changes value
Refuses changes value rehearse.NoMemory = Unit {0}
Refuses changes value rehearse.Unwritable = ⊥
Refuses changes value rehearse.Unmet = ⊥
