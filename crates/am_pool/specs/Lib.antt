-- the attempts of a courier, as contracts see them
pub mod Tries
-- the delivery of a notice: a courier makes the attempts that the retry outcome defines
pub mod Delivery
-- the rule of the queue of job numbers: the taken and the remaining ones are those that were put, each once
pub mod Dealt
-- what a worker and its courier did
pub mod Work
-- workers that are done, and how their reports get into the order of the jobs
pub mod Gathered
-- what a pool sends, and the causes for which it sends nothing
pub mod Sent
-- what is sent, in tries that are answered as is known
pub mod Sendings
-- the limits and the fault's numbers, by their values
pub mod Laws
