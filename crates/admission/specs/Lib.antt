pub mod Parts
pub mod Verdict
