-- how times are shown
pub mod TimeFormatData
-- times as dates with times of day, in UTC (RFC 3339)
pub mod UtcDates
-- the words of reasons, and how many notices are as many as are expected
pub mod Expectation
-- texts of times that were computed by hand
pub mod Rows
-- previews of one group that differ in their times at most
pub mod Like
