-- a flush that is added twice
pub mod Again
-- facts one after another
pub mod Facts
-- one more label set to which a flush is added
pub mod Step
-- which label sets a dispatcher knows
pub mod Known
-- what tables hold
pub mod Tables
-- one record more
pub mod Parts
-- integrations that are added
pub mod Recipients
-- the groups of a label set that is added
pub mod Groups
-- what holds where a call succeeded
pub mod Outcomes
-- the lines of one label set more
pub mod Lines
