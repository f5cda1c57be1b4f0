pub mod Quotients
pub mod Fewness
