pub mod Lists
pub mod Values
