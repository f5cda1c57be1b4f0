pub mod Places
pub mod Progress
pub mod Positions
pub mod Finding
pub mod Advancing
pub mod Listed
pub mod Things
