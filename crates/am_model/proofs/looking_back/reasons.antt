pub mod Chains
pub mod Previews
pub mod ReasonsAreExact
pub mod ReasonsSay
pub mod WhomNeeded
