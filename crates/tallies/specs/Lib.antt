pub mod Parts
pub mod Tallies
