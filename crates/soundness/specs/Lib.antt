pub mod Parts
pub mod Survey
