-- how a run ends without its report
pub mod Faults
-- the calls that the lanes of a scenario make
pub mod Lanes
-- what the main thread of a scenario does, phase by phase
pub mod Turns
-- the history of a played scenario, part by part: one for each phase
pub mod Parts
-- the report on a scenario that ran
pub mod Plays
-- why a scenario isn't played to its end
pub mod IsCauseOfFull
-- what the passes of the lanes have made, between the phases of a run
pub mod LaneStates
-- what the steps of a phase do to the main thread's pass
pub mod Steps
-- what the main thread's pass has seen of the passes of the lanes
pub mod Interleaving
-- where a run stops
pub mod Stops
-- the faults of a phase
pub mod PhaseFaults
-- a run, by its lanes
pub mod Runs
-- what follows from the definitions of a scenario
pub mod Laws
-- the text of a history
pub mod Report
-- the first worked run: one alert, one flush, one notice
pub mod FirstRun
