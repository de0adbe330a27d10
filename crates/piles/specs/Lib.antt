pub mod Layers
pub mod Numbered
pub mod Parts
pub mod Worked
pub mod Laws
