pub mod Written
pub mod ReadBack
mod Backwards
mod Reading
mod Spelling
mod Counting
mod Cut
