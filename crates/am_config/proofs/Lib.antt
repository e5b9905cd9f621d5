-- faults that compose, and what was read without one
pub mod Collecting
-- the lists of a receiver's integrations
pub mod Integrations
-- matchers that were read, one more at a time
pub mod Matched
-- the pieces of a text of matchers
pub mod Pieces
-- the labels of `group_by`
pub mod Grouped
-- routes that were read, one more at a time
pub mod Routed
-- clocks and intervals on them
pub mod Timed
-- definitions and the routes that list them
pub mod Listed
