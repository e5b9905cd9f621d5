-- how a rehearsal ends without its output, or with an expectation that isn't met
pub mod Faults
-- the line between what two dispatchers did
pub mod Head
-- what is printed of a rehearsal that ran
pub mod Printed
