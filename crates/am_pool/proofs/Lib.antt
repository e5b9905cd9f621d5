-- one more try of a notice
pub mod Appended
-- weights of lists, and totals over hands
pub mod Weights
-- each step of the queue of job numbers keeps the rule
pub mod Dealings
-- what a worker did, one job more
pub mod Working
-- workers brought together, the last first
pub mod Gatherings
-- reports put into their places, where each number is once
pub mod Placing
-- what was sent, from what each worker did
pub mod Sending
-- how attempts are answered determines the report on a notice that is sent
pub mod Determined
