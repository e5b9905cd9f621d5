-- what is given of a board that ran, and what is written of it
pub mod Tales
-- refusals that are handed on, and what they exclude
pub mod Refusals
