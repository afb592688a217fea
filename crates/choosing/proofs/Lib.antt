pub mod Agrees
pub mod Dates
pub mod Fills
pub mod Firsts
pub mod Speeds
pub mod Waiting
