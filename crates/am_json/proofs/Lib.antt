-- what is made unless there is a fault
pub mod Made
-- the members of an object, and the items of an array
pub mod Members
-- names of labels that are read, and what represents all of them
pub mod Names
-- members that are read, and what represents one that isn't there
pub mod Decoding
-- texts of matchers: what is written plainly, with a quote or with an escape
pub mod MatcherTexts
-- matchers that are made of written parts
pub mod Translations
-- a JSON value says one matcher, one rule, one configuration at most
pub mod Once
-- what a configuration without a fault has, and one whose matchers look for no pattern
pub mod Configured
-- bytes that are being written
pub mod Written
