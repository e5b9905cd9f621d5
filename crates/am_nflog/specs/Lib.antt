-- the log as the list of its known keys, each with a row or none
pub mod Log
-- lists of members that represent sets
pub mod Members
-- whether an integration needs an update about a group
pub mod Needed
