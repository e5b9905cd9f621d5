-- what the scripts of a scenario plan for the attempts of its notices
pub mod Scripts
-- what the JSON value of a scenario decodes to, a line for each field
pub mod Decoding
