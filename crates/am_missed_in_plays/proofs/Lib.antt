-- the dispatchers of a rehearsal ran, each with its part
pub mod HaveRun
-- a flush of a group that is served comes by the latest time after an insert
pub mod Begun
-- what it notifies of is reported delivered
pub mod Delivered
-- what has happened to the span until then
pub mod Reached
-- so no span is missed in time
pub mod InTime
-- worked rehearsals: the hypotheses are met, and an outage breaks the law
pub mod Examples
