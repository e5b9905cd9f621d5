-- configurations without a fault
pub mod configuration
-- worked examples: the definitions, run on them
pub mod examples
-- what every legal history has
pub mod legal
-- lists; the crates above cite them too
pub mod lists
-- the laws of looking back, from the definitions alone
pub mod looking_back
-- states that hold the same, and their parts
pub mod states
-- tickets, and the outcomes in them
pub mod tickets
