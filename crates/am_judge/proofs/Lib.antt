-- the name of the integration at a position
pub mod Named
