-- what a story that is accepted asks for
pub mod Accepted
-- what `routes` prints of a routing tree
pub mod AskedRoutes
-- standard input among the files of a command line
pub mod Inputs
-- what `json` prints
pub mod JsonLines
-- the label set that words of a command line write
pub mod LabelWords
-- texts that are added, and lines
pub mod Lines
-- what `routes` prints of routes
pub mod RouteLines
-- what `routes` prints of a file
pub mod ShownRoutes
