pub mod Lanes
pub mod LaneStates
pub mod Meetings
pub mod Calls
pub mod Refused
pub mod Crossing
