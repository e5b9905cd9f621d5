pub mod Alone
pub mod Distinct
pub mod Exchanges
pub mod InOrder
pub mod Indexes
pub mod Removals
pub mod Sets
pub mod Words
