-- what a rehearsal asks for
pub mod Request
-- the reloads and restarts of a story
pub mod DispatcherChanges
-- under which configuration a story runs
pub mod Configured
-- the time zones that a story says
pub mod Zones
-- the clocks of its time intervals
pub mod Clocks
