pub mod Fresh
pub mod SameBytes
pub mod Writing
pub mod Reading
pub mod Pieces
pub mod Lookups
pub mod Evaluating
