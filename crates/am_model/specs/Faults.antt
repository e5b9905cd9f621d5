-- The numbers of faults.
use Rattle.std.specs.Prelude.{ℕ}
use Rattle.am_model.specs.declared.fault.BoardFault.{BoardFault}
use Rattle.am_model.specs.declared.fault.BoardFault.TheVariants.{NoMemory, BadConfig}

-- the number of a fault for which no board is made
abbrev pub board_fault_number : BoardFault → ℕ
board_fault_number NoMemory = 1
board_fault_number (BadConfig fault) = 2
