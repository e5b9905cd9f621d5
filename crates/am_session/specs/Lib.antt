pub mod Line
pub mod Refusal
pub mod Row
pub mod Service
pub mod Session
pub mod Ticket
