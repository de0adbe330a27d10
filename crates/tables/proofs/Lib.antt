pub mod RunLaws
pub mod AdviceLaws
pub mod Ranges
pub mod Values
mod Turned
