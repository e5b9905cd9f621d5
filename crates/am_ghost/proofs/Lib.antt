-- steps that the walks of `src/trail.rt` share
pub mod Walks
