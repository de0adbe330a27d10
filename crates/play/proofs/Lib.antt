pub mod Turning
pub mod Theorem
