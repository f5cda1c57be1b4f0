pub mod Firsts
pub mod Books
pub mod Examples
