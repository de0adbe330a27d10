pub mod Tables
pub mod Digits
pub mod Levels
pub mod Sizes
