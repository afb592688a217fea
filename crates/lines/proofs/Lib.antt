pub mod Breaks
pub mod Chains
pub mod Spelled
pub mod Unread
