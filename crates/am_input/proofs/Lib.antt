-- members say one list of planned actions at most
pub mod OnePlan
-- refusals that are handed on
pub mod Refusals
-- the zones of members
pub mod Listed
-- starts that a member can't say
pub mod Starts
-- what items say of changes of the dispatcher
pub mod DecodedDispatcherChanges
-- configurations by their clocks
pub mod Clocked
