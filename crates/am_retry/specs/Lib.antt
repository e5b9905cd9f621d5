-- the attempts of a list of answers: their times, their ends and the waits between them
pub mod Attempts
-- which outcome a whole list of answers has
pub mod Outcome
-- what contracts see of the retry machine, and how it is to the answers that it took
pub mod Progress
-- the laws of the retry machine: what it gives is the outcome of its answers as a whole
pub mod Laws
