-- the worked rows: the definitions, run on them
pub mod Rows
-- the day so many days later
pub mod Days
-- lists are the same where their elements are, by a test
pub mod Sameness
