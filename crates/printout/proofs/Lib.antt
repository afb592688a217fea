pub mod Fields
pub mod LastLine
pub mod RowLines
pub mod Rendering
pub mod TickLines
pub mod Largest
pub mod Printing
pub mod Answers
