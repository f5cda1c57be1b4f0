pub mod Entries
pub mod Atoms
pub mod Drafts
pub mod Tables
