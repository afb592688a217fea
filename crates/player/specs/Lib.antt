pub mod Plays
pub mod Rows
pub mod Parts
