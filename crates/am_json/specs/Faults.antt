-- The faults of an input.
use Rattle.std.specs.Prelude.{◌≡◌, ◌<◌, ◌++◌, List, [], ◌∷◌, length, Option, Some, None, Result, Ok, Err, if◌then◌else◌, nat_lt}
use Rattle.am_json.specs.declared.fault.InputFault.{InputFault}
use Rattle.am_json.specs.declared.fault.InputFault.TheVariants.{Refused, NoMemory}
use Rattle.am_json.specs.declared.faults.Fault.{Fault}
use Rattle.am_json.specs.declared.faults.Refusal.{Refusal}
use Rattle.am_json.specs.declared.faults.Refusal.TheVariants.{One, All}
use Rattle.am_json.specs.declared.faults.TheConstants.{MAX_FAULTS}

-- the faults with a refused value's behind them, unless there are a hundred
abbrev pub with_fault : List Fault → InputFault → List Fault
with_fault faults (Refused pointer fault_kind) =
    if nat_lt (length faults) MAX_FAULTS then faults ++ (record { pointer = pointer; fault_kind = fault_kind }) ∷ [] else faults
with_fault faults NoMemory = faults

-- what was read is kept, with no further fault, or else its fault
abbrev pub IsKept : {T : Type 0} → List Fault → List Fault → Result T InputFault → Option T → Type 0
IsKept before after (Ok read) kept = (after ≡ before) × (kept ≡ Some read)
IsKept before after (Err fault) kept = (after ≡ with_fault before fault) × (kept ≡ None)

-- which fault ends the reading where this one comes: a refused value doesn't, unless there is no memory to keep it
abbrev pub Ends : InputFault → InputFault → Type 0
Ends (Refused pointer fault_kind) end = end ≡ NoMemory
Ends NoMemory end = end ≡ NoMemory

-- the same of what was read
abbrev pub EndsReading : {T : Type 0} → Result T InputFault → InputFault → Type 0
EndsReading (Ok read) end = ⊥
EndsReading (Err fault) end = Ends fault end

-- a refusal lists at least one fault
abbrev pub HasFaults : Refusal → Type 0
HasFaults (One fault) = Unit {0}
HasFaults (All faults) = 0 < length faults
