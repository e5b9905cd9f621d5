use Rattle.std.proofs.Common.{◌-◌, length, refl, take}
use Rattle.json.specs.Print.{escape_byte, print_from}
use Rattle.am_protocol.specs.Fault.{fault_line}
use Rattle.am_protocol.specs.declared.fault.LineFault.TheVariants as fault
use Rattle.am_protocol.proofs.fault.no_memory_line.Goals as goal

pub returns-clause-line : goal.returns-clause-line
unfolding print_from escape_byte
returns-clause-line c = refl

pub returns-clause-one : goal.returns-clause-one
unfolding print_from escape_byte
returns-clause-one c = let text = fault_line fault.NoMemory in (take (length text - 1) text, refl, refl)
