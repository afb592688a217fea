pub mod Groups
pub mod RunFile
pub mod Good
pub mod Spelled
