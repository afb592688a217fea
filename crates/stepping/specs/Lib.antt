pub mod Parts
pub mod Stepped
