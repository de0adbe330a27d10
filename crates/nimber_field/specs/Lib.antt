pub mod Missing
pub mod Tower
pub mod Nimber
pub mod Field
