pub mod Places
pub mod Numbers
pub mod Steps
pub mod Firsts
pub mod Rounds
pub mod Search
pub mod Listing
