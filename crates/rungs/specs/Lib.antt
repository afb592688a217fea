pub mod Parts
pub mod Rungs
