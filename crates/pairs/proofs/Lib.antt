pub mod Empty
pub mod Gathering
pub mod Branching
pub mod Asking
