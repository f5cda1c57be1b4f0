pub mod Cutting
pub mod Stopping
pub mod Taking
pub mod Writing
pub mod Reading
pub mod Printing
pub mod Answering
