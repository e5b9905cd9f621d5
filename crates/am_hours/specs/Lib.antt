-- the pieces of a zone's clock
pub mod Clocks
-- times at which an interval of Alertmanager's holds
pub mod Intervals
-- a law on clocks
pub mod Laws
-- one step of a merge
pub mod Merging
-- when a route is muted
pub mod Muting
-- stretches of a local clock
pub mod Pieces
-- what the texts of an interval mean
pub mod Reading
-- what a zone's clock shows where a piece begins
pub mod Showing
-- zones
pub mod Zones
