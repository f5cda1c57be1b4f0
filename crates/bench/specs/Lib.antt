pub mod Shelves
pub mod Benches
pub mod Combining
pub mod Refusals
pub mod Nodes
pub mod Lookups
pub mod Testing
