pub mod Tests
pub mod CellBits
pub mod CellSums
