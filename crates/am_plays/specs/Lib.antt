-- what every play has: it is legal, and nothing that is due is passed over
pub mod Plays
-- pages come in time to a receiver that no outage names
pub mod PlaysInTime
-- and are delivered in time
pub mod PlaysDeliver
-- and come once the outages of a receiver are over
pub mod PlaysRecover
