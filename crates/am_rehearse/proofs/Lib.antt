-- what the status of several stories says of each
pub mod Tallies
-- what the status of a story says of how its run ended
pub mod Endings
-- what follows for several dispatchers from what is said of each
pub mod Comparisons
