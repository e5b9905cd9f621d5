-- The numbers of faults.
use Rattle.std.specs.Prelude.{◌≡◌, ℕ}
use Rattle.am_board.specs.declared.fault.FinishFault.{FinishFault}
use Rattle.am_model.specs.Ticket.{TicketData}
use Rattle.am_board.specs.declared.fault.FinishFault.TheVariants.{Foreign, NotOpen}

-- the number of a fault for which a finish is refused
abbrev pub finish_fault_number : FinishFault → ℕ
finish_fault_number (Foreign ticket) = 7
finish_fault_number NotOpen = 8

-- law: the numbers of the faults of a finish, by their values
abbrev pub FinishFaultsAre : Type 0
FinishFaultsAre = ((ticket : TicketData) → finish_fault_number (Foreign ticket) ≡ 7) × (finish_fault_number NotOpen ≡ 8)
