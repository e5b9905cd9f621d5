-- the statuses with which am-rehearse ends
pub mod ExitStatus
-- what a command line asks for
pub mod Request
