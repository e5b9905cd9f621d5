-- what the members of an expectation say
pub mod Expected
-- what the JSON values of a story's alerts, silences and outages decode to
pub mod Decoding
-- the configurations under which a story runs
pub mod Configs
-- when a story reloads and restarts the dispatcher
pub mod DispatcherChange
-- what the alerts and the silences of a story plan
pub mod Planned
