-- what the command line of `play` asks for
pub mod Asked
-- what is said of one story under two configurations
pub mod Compared
-- how the play of a story ends
pub mod Ended
