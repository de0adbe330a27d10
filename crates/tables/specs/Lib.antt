pub mod Coins
pub mod Calls
pub mod Runs
