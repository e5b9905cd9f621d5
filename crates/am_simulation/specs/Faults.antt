-- Faults: the faults of a board, as those of a rehearsal.
use Rattle.am_model.specs.declared.fault.BoardFault.{BoardFault}
use Rattle.am_model.specs.declared.fault.BoardFault.TheVariants as board
use Rattle.am_model.specs.declared.fault.Fault.{Fault}
use Rattle.am_model.specs.declared.fault.Fault.TheVariants as call
use Rattle.am_simulation.specs.declared.play.PlayFault.{PlayFault}
use Rattle.am_simulation.specs.declared.play.PlayFault.TheVariants as play

-- there was no memory, or no board may have the configuration
abbrev pub fault_of_board : BoardFault → PlayFault
fault_of_board board.NoMemory = play.NoMemory
fault_of_board (board.BadConfig fault) = play.BadConfig

-- there was no memory, or a limit is reached
abbrev pub fault_of_call : Fault → PlayFault
fault_of_call call.NoMemory = play.NoMemory
fault_of_call call.TooManyAlerts = play.Full
fault_of_call call.TooManyGroups = play.Full
fault_of_call call.TooManySilences = play.Full
fault_of_call call.TooManyOpen = play.Full
fault_of_call call.HistoryFull = play.Full
