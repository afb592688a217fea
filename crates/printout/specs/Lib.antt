pub mod Print
pub mod Largest
pub mod Parts
