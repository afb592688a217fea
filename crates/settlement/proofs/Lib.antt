pub mod Bullets
pub mod Marks
pub mod Spent
pub mod Steps
pub mod Told
pub mod Waits
pub mod Wholes
pub mod Written
