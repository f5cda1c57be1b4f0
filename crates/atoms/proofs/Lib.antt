pub mod Exactness
pub mod Covering
pub mod Dividing
pub mod Tables
