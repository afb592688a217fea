pub mod Great
pub mod Rows
pub mod Sums
pub mod Verdicts
pub mod Walks
