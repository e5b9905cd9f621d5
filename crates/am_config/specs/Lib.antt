-- what is dropped of a file
pub mod IgnoredSettings
-- how faults compose
pub mod Collects
-- what the members of a mapping say
pub mod Said
-- the receivers, and their integrations
pub mod Receivers
-- the matchers, in each form
pub mod Matchers
-- the inhibition rules
pub mod Rules
-- time intervals, and when they mute a route
pub mod Times
-- the clocks that were made
pub mod Made
-- the indexes of definitions
pub mod Indexes
-- how long the log keeps an entry
pub mod Retention
-- the tree of routes
pub mod Routes
-- the tree of routes that was read
pub mod Trees
-- spans of time, later
pub mod Later
