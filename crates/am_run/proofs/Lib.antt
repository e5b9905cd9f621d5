-- a list whose elements are written one after the other
pub mod Written
-- faults that refuse an input
pub mod Refusals
-- lemmas by subject
pub mod lemmas
-- the first worked run: the definitions, run on it
pub mod FirstRun
-- what the reports say of a flush
pub mod Attempts
