-- the steps of begins
pub mod Beginning
-- a board after a call
pub mod Calling
-- what comes next: what it is about is there, and where nothing comes, nothing is in flight
pub mod Coming
-- sendings end by the cut
pub mod CutOff
-- a notice that a courier delivered which answers so and never refuses
pub mod Delivered
-- what a board does over each call
pub mod Doing
-- a rehearsal ends: how many steps lead on at most
pub mod Ending
-- one more end of a ticket's notices
pub mod Ends
-- what events with one more say of the begins
pub mod Happening
-- why what comes next isn't done
pub mod Hindering
-- what each step keeps: the configuration, and what is done and left of the plans
pub mod Keeping
-- keys of flushes in flight, with one more or one less
pub mod KeyChanges
-- flushes in flight with one more, one less and one that changes, each with its key
pub mod FlightSteps
-- flushes in flight that have their keys
pub mod Keyed
-- a load that a board doesn't refuse
pub mod Loading
-- a rehearsal has one play
pub mod OnePlay
-- the scene with which a rehearsal starts
pub mod Opened
-- the parts of a rehearsal: one change of the dispatcher more, and one played part more
pub mod Parting
-- the plans that are left are the last of those that were planned
pub mod PlansLeft
-- scenes by their parts
pub mod Scenes
-- what is set again at a change of the dispatcher, with one plan more in front
pub mod SetAgain
-- what is reported of a board holds over each call
pub mod PreviewsHold
-- the next step, when it is done
pub mod Stepping
-- what is reported of a history with one record more
pub mod Reporting
