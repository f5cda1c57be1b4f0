pub mod Crossed
pub mod UpTo
