-- what each begin of a history was to do, by the records before it
pub mod Previews
-- what the begins of a board were to do, while it runs
pub mod PreviewLog
-- what a history has of the planned actions, and whether a board refuses one
pub mod Planned
-- what the events of a rehearsal say of its begins
pub mod EventOrder
-- the faults of a board, as those of a rehearsal
pub mod Faults
-- why a rehearsal isn't played to its end
pub mod CauseOfFault
-- how attempts of a notice are answered
pub mod Answers
-- what is known of a rehearsal between two steps
pub mod Scene
-- why a planned action isn't done
pub mod Acting
-- what comes next, and when
pub mod Next
-- the steps of a rehearsal, each with its call of the board
pub mod Steps
-- the keys by which the next ends of the flushes in flight are found
pub mod FlightKeys
-- which plays a rehearsal has
pub mod Play
-- taking what comes next of a list
pub mod Taking
-- a rehearsal has one play
pub mod Laws
-- what a new dispatcher is given before its own plans
pub mod DispatcherChange
-- what was seen, while plans are gone through from the end
pub mod Seen
-- a rehearsal with changes of the dispatcher, as a list of parts
pub mod Parts
-- the parts of a rehearsal, played one after another
pub mod Playing
-- the state of the loop that plays
pub mod Simulations
