use Rattle.std.proofs.Common.{◌-◌, length, refl, take}
use Rattle.json.specs.Print.{escape_byte, print_from}
use Rattle.am_protocol.specs.Fault.{fault_line}
use Rattle.am_protocol.specs.declared.fault.LineFault.TheVariants as fault
use Rattle.am_protocol.proofs.fault.LineFault.ready_line.Goals as goal

pub returns-in-Untold-clause-line : goal.returns-in-Untold-clause-line
unfolding print_from escape_byte
returns-in-Untold-clause-line c = rw c.in-Untold.is refl

pub returns-in-Untold-clause-one : goal.returns-in-Untold-clause-one
unfolding print_from escape_byte
returns-in-Untold-clause-one c = let text = fault_line fault.Untold in (take (length text - 1) text, refl, refl)

pub returns-in-Spent-clause-line : goal.returns-in-Spent-clause-line
unfolding print_from escape_byte
returns-in-Spent-clause-line c = rw c.in-Spent.is refl

pub returns-in-Spent-clause-one : goal.returns-in-Spent-clause-one
unfolding print_from escape_byte
returns-in-Spent-clause-one c = let text = fault_line fault.Spent in (take (length text - 1) text, refl, refl)
