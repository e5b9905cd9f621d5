-- Faults that refuse an input.
use Rattle.std.proofs.Common.{◌≡◌, ℕ, List, Result, Ok, Err, refl, subst, sym}
use Rattle.std.specs.Prelude.{IfErr, IsTrue}
use Rattle.std.specs.Result.{IsErrAnd}
use Rattle.am_json.specs.Read.{IsJson, IsRefusedBy, is_refusal}
use Rattle.am_json.specs.declared.fault.FaultKind.TheVariants.{Full}
use Rattle.am_json.specs.declared.fault.InputFault.{InputFault}
use Rattle.am_json.specs.declared.fault.InputFault.TheVariants.{NoMemory, Refused}
use Rattle.am_run.specs.Faults.{Refuses, IsStuckInput, fault_of_input}
use Rattle.am_run.specs.declared.run.TheConstants.{BOARD_ID}
use Rattle.am_run.specs.declared.fault.RunFault.{RunFault}
use Rattle.am_scenario.specs.Decoding.{IsScenarioIn, scenario_compares_texts}
use Rattle.am_scenario.specs.declared.scenario.Scenario.{Scenario}

-- one that is handed on refuses the input as it did
pub handed_on : {T : Type 0} (input : List ℕ) (result : Result T RunFault) (fault : RunFault) → IsErrAnd result (λ f. f ≡ fault) → Refuses input fault
    → IfErr result (Refuses input)
handed_on input (Ok x) fault is refuses = absurd is
handed_on input (Err f) fault is refuses = subst (Refuses input) (sym is) refuses

-- what a fault says is said of it where it is handed on
pub passed_on : {T E : Type 0} (P : E → Type 0) (result : Result T E) (fault : E) → IsErrAnd result (λ f. f ≡ fault) → P fault → IfErr result P
passed_on P (Ok x) fault is holds = absurd is
passed_on P (Err f) fault is holds = subst P (sym is) holds

-- lack of memory refuses nothing
pub no_refusal : (fault : InputFault) → fault ≡ NoMemory → IsTrue (is_refusal fault) → ⊥
no_refusal (Refused pointer kind) is refusal = cc is
no_refusal NoMemory is refusal = cc refusal

-- one of reading, where the input says no scenario
pub unread : (input : List ℕ) (fault : InputFault) → IsJson input
    → (IsTrue (is_refusal fault) → (scenario : Scenario) → IsScenarioIn input scenario → IsTrue (scenario_compares_texts scenario) → ⊥)
    → Refuses input (fault_of_input fault)
unread input (Refused pointer kind) json none = (json, λ scenario decoded without. absurd (none refl scenario decoded without))
unread input NoMemory json none = tt

-- one of running, for lack of memory, or because a limit stops the play
pub unplayed : (input : List ℕ) (fault : InputFault) → IsJson input → IsRefusedBy Full fault → (IsTrue (is_refusal fault) → IsStuckInput BOARD_ID input)
    → Refuses input (fault_of_input fault)
unplayed input (Refused pointer kind) json full stuck = (json, λ scenario decoded without. (full, stuck refl))
unplayed input NoMemory json full stuck = tt
