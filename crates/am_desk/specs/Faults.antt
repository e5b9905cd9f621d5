-- The numbers of faults, and the fault of an opening by its board's.
use Rattle.std.specs.Prelude.{ℕ}
use Rattle.am_model.specs.declared.fault.BoardFault.{BoardFault}
use Rattle.am_model.specs.declared.fault.BoardFault.TheVariants as board
use Rattle.am_desk.specs.declared.fault.OpenFault.{OpenFault}
use Rattle.am_desk.specs.declared.fault.OpenFault.TheVariants.{NoMemory, BadConfig}
use Rattle.am_desk.specs.declared.fault.CloseCause.{CloseCause}
use Rattle.am_desk.specs.declared.fault.CloseCause.TheVariants.{Missing, OpenFlush}

-- the fault of an opening whose board isn't made
abbrev pub open_fault_of : BoardFault → OpenFault
open_fault_of board.NoMemory = NoMemory
open_fault_of (board.BadConfig reason) = BadConfig reason

-- the number of a fault for which no desk is opened
abbrev pub open_fault_number : OpenFault → ℕ
open_fault_number NoMemory = 1
open_fault_number (BadConfig reason) = 2

-- the number of a cause for which a desk isn't closed
abbrev pub close_cause_number : CloseCause → ℕ
close_cause_number Missing = 1
close_cause_number (OpenFlush count) = 2
