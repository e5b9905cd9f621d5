-- how long a wait is
pub mod Waits
-- what the first answers of a list say doesn't depend on those that follow
pub mod Fronts
-- one answer more: where the machine is after it, and that time goes by
pub mod Steps
-- a list of answers, one by one: where it leads the machine
pub mod Runs
-- the attempts that were made, one after another
pub mod Tries
-- waits grow by half: the definitions, run on worked rows
pub mod Rows
