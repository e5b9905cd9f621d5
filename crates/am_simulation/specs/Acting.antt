-- Acting: why a planned action isn't done, as the board that is to do it says.
use Rattle.std.specs.Prelude.{◌≡◌, Bool, true, false, Result, Ok, Err}
use Rattle.am_model.specs.declared.fault.Fault.{Fault}
use Rattle.am_model.specs.declared.fault.Fault.TheVariants as call
use Rattle.am_model.specs.declared.fault.LoadFault.{LoadFault}
use Rattle.am_model.specs.declared.fault.LoadFault.TheVariants as load
use Rattle.am_simulation.specs.declared.acting.ActFault.{ActFault}
use Rattle.am_simulation.specs.declared.acting.ActFault.TheVariants.{NoMemory, Refused}

-- there was no memory, or a limit is reached
abbrev pub act_fault_of_call : Fault → ActFault
act_fault_of_call call.NoMemory = NoMemory
act_fault_of_call call.TooManyAlerts = Refused
act_fault_of_call call.TooManyGroups = Refused
act_fault_of_call call.TooManySilences = Refused
act_fault_of_call call.TooManyOpen = Refused
act_fault_of_call call.HistoryFull = Refused

-- there was no memory, or the row doesn't fit, or a limit is reached
abbrev pub act_fault_of_load : LoadFault → ActFault
act_fault_of_load load.NoMemory = NoMemory
act_fault_of_load load.HistoryFull = Refused
act_fault_of_load load.NoIntegration = Refused
act_fault_of_load load.Unordered = Refused
act_fault_of_load load.Ahead = Refused

-- a planned action isn't done for this fault, where the board refuses it or doesn't; nothing is said of memory
abbrev pub IsActFault : Bool → ActFault → Type 0
IsActFault refused NoMemory = Unit {0}
IsActFault refused Refused = refused ≡ true

-- a planned action came to this, where the board refuses it or doesn't
abbrev pub IsActed : {T : Type 0} → Bool → Result T ActFault → Type 0
IsActed refused (Ok x) = refused ≡ false
IsActed refused (Err fault) = IsActFault refused fault
