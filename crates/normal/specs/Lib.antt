pub mod Lists
pub mod Classes
pub mod Orders
