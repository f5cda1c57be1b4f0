pub mod Refusals
pub mod Rows
pub mod Reading
pub mod Printing
pub mod Answers
