pub mod Lines
pub mod Outcomes
pub mod Steps
pub mod Reports
