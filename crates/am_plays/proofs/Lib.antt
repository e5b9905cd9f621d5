-- words about what is there, if anything is
pub mod Words
-- the group that is due next comes first
pub mod FirstDue
-- the open flushes, a call later
pub mod OpenFlights
-- when the next step comes
pub mod Timing
-- the kinds of steps
pub mod StepKinds
-- what a step does: the board accepts a call, or it doesn't change
pub mod Moves
-- what is true in each scene
pub mod Sound
-- nothing due is passed over, and none is left
pub mod PassedOver
-- a flush that is closed is finished
pub mod Closing
-- where flushes never wait, each group is begun when it is due
pub mod OnTime
-- worked plays: the hypotheses are met, and a limit of open flushes breaks the laws
pub mod Examples
-- sendings without an outage are over at once
pub mod Instant
-- what is known of each sending to a group's receiver
pub mod Promises
-- while a flush is open, time moves on to the promised time at most
pub mod InFlight
-- of a flush of which each sending is a success, all is reported delivered
pub mod Successes
-- each flush of a group whose receiver keeps its promises ends in time, all delivered or not
pub mod FlushesEnd
-- a play is on time for each group that is served, and delivers each flush of it
pub mod Served
-- a group by a time has no open flush, and is due later
pub mod AtRest
-- a play pages it in time, and is delivered then
pub mod PagesInPlays
-- a sending to a receiver whose outages end succeeds, or its deadline comes soon
pub mod Recovery
-- and so does each flush of a group, or the group is due again soon
pub mod Recovering
-- from a flush on, the integration hears, or the group is due again soon
pub mod Phases
-- so pages come after outages
pub mod AfterOutages
-- worked plays with an outage that ends, and with one that refuses for good
pub mod OutageExamples
