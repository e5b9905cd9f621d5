-- what is expected of a rehearsal, and whether it is met
pub mod Expectation
-- expectations whose answer depends on repeats on the edge
pub mod Edge
-- the text on each expectation
pub mod ExpectationReport
-- the report on expectations as a test suite of JUnit
pub mod Junit
