pub mod Begins
pub mod Stores
