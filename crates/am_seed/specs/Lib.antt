-- the seed of a number, and what a hasher of a seed computes
pub mod Hashing
